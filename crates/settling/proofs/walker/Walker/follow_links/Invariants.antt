use Rattle.std.proofs.Common.{◌≡◌}
use Rattle.walk.specs.Rules.{Links}
use Rattle.settling.specs.Means.{core_at, tree_at, net_at, Kept}
use Rattle.settling.proofs.walker.Walker.follow_links.Given as goal

abbrev pub invariant-loop-k : goal.invariant-loop-k
invariant-loop-k g l =
    Links (net_at l.initial.self) (tree_at l.initial.self) l.v l.d (core_at l.initial.self) l.k (core_at l.self)
    × (l.self.trail ≡ l.initial.self.trail)
    × Kept l.initial.self l.self
