use Rattle.tree.proofs.Joints.{joint_level, smallest_of, none_together, together_none}
use Rattle.tree.proofs.laws.the_smallest_node_has_the_joint_level.Goals as goal

pub returns : goal.returns
returns c = λ g t h. record { level = joint_level h; exists = smallest_of h; none = λ a b s. (none_together h a b, together_none h a b s) }
