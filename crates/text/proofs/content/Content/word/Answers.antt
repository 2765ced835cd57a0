use Rattle.std.proofs.Common.{sym, ◌∙◌}
use Rattle.text.proofs.content.Content.word.Goals as goal

pub returns : goal.returns
returns c =
    let at = c.piece_start-start.ensures in
    record { bytes = c.word_from.ensures.bytes c.args.j at; column = c.word_from.ensures.column ∙ sym at.column }
