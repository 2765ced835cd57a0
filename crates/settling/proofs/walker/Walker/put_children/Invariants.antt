use Rattle.std.proofs.Common.{take}
use Rattle.walk.specs.Rules.{Puts}
use Rattle.settling.specs.Means.{core_at, tree_at, OnlyShelf}
use Rattle.settling.proofs.walker.Walker.put_children.Given as goal

abbrev pub invariant-loop-i : goal.invariant-loop-i
invariant-loop-i g l =
    let t = tree_at l.initial.self in
    let s = core_at l.initial.self in
    Puts t s.so_far s.base (take l.i (t.children l.node)) s.shelf (core_at l.self).shelf
    × OnlyShelf l.initial.self l.self
