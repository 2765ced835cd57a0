use Rattle.std.proofs.Common.{ap, sym, ◌∙◌}
use Rattle.map.specs.declared.node.Node.{Node}
use Rattle.map.proofs.Parts.{part_length}
use Rattle.map.proofs.map.Map.many_of.Goals as goal

pub returns : goal.returns
returns c = ap (λ (n : Node). n.many) c.node.ensures ∙ sym (part_length _ _ _)
