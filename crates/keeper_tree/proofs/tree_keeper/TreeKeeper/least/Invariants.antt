use Rattle.std.proofs.Common.{◌≡◌, ◌-◌, ◌*◌, ◌<◌, ◌≤◌}
use Rattle.keeper.specs.Lesser.{lesser_of, least_in}
use Rattle.keeper_tree.specs.Trees.{under}
use Rattle.keeper_tree.proofs.tree_keeper.TreeKeeper.least.Given as goal

abbrev pub invariant-loop-low : goal.invariant-loop-low
invariant-loop-low l =
    (l.low < l.high → 1 ≤ l.low)
    × (l.high ≤ 2 * l.self.places)
    × (lesser_of l.best (least_in (under l.nodes) l.low (l.high - l.low)) ≡ least_in (under l.nodes) l.initial.low (l.initial.high - l.initial.low))

abbrev pub decreases-loop-low : goal.decreases-loop-low
decreases-loop-low l = l.high - l.low
