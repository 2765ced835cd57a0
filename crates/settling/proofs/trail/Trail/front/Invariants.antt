use Rattle.std.proofs.Common.{◌≡◌, ◌-◌, None}
use Rattle.tree.specs.Tree.{Below}
use Rattle.walk.specs.Able.{Fronted}
use Rattle.map.specs.Means.{tree_of}
use Rattle.settling.specs.Means.{base_of}
use Rattle.settling.proofs.trail.Trail.front.Given as goal

abbrev pub invariant-loop-p : goal.invariant-loop-p
invariant-loop-p l =
    Below (tree_of l.map) l.station l.c × (base_of l.self l.c ≡ None) × Fronted (tree_of l.map) (base_of l.self) l.c

abbrev pub decreases-loop-p : goal.decreases-loop-p
decreases-loop-p l = (tree_of l.map).nodes - l.c
