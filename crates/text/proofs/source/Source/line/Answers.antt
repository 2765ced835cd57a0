use Rattle.std.proofs.Common.{sym, refl}
use Rattle.text.proofs.Pieces.{line_some, line_is}
use Rattle.text.proofs.source.Source.line.Goals as goal

pub returns : goal.returns
returns c =
    let at = c.piece_start-start.ensures in
    (sym (line_is at c.piece_end-end.ensures (line_some at c.requires)), refl)
