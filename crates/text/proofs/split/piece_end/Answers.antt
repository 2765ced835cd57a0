use Rattle.std.proofs.Common.{ℕ, Option, length, drop, unwrap_or, ap, ◌∙◌}
use Rattle.std.proofs.lemmas.List.{take_rest}
use Rattle.text.proofs.Pieces.{ends_at}
use Rattle.text.proofs.split.piece_end.Goals as goal

pub returns : goal.returns
returns c =
    let found = rw take_rest at c.first_stop.ensures in
    let long = rw take_rest at c.unwrap_or.ensures in
    ends_at _ _ _ _ c.requires (long ∙ ap (λ (o : Option ℕ). unwrap_or o (length (drop c.args.start c.args.bytes.now))) found)
