use Rattle.std.proofs.Common.{◌≡◌, ◌+◌, ◌<◌, ◌/◌, drop, set, vec_items}
use Rattle.keeper_tree.specs.Trees.{OverBut, under}
use Rattle.keeper_tree.proofs.tree.Tree.note.Given as goal

abbrev pub invariant-loop-k : goal.invariant-loop-k
invariant-loop-k l =
    let n = l.fn.self.places in
    record {
      inner : l.k < n + n;
      rest : OverBut n (l.k / 2) (under l.nodes);
      kept : drop n l.nodes ≡ set (drop n (vec_items l.fn.self.nodes)) l.fn.place l.fn.d;
    }

abbrev pub decreases-loop-k : goal.decreases-loop-k
decreases-loop-k l = l.k
