use Rattle.tree.proofs.Agree.{agree}
use Rattle.tree.proofs.laws.a_network_has_one_tree.Goals as goal

pub returns : goal.returns
returns c = λ g t t' h h'. agree h h'
