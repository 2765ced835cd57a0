use Rattle.std.proofs.Common.{sym, ◌∙◌}
use Rattle.word.proofs.Spelling.{one_spelling}
use Rattle.word.proofs.laws.a_number_has_one_spelling.Goals as goal

pub returns : goal.returns
returns c = λ v w n p q. one_spelling v w p.0 q.0 (p.1 ∙ sym q.1)
