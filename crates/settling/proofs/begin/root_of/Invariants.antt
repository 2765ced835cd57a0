use Rattle.std.proofs.Common.{◌-◌}
use Rattle.tree.specs.Tree.{Below}
use Rattle.map.specs.Means.{tree_of}
use Rattle.settling.proofs.begin.root_of.Given as goal

abbrev pub invariant-loop-p : goal.invariant-loop-p
invariant-loop-p l = Below (tree_of l.map) l.station l.x

abbrev pub decreases-loop-p : goal.decreases-loop-p
decreases-loop-p l = (tree_of l.map).nodes - l.x
