use Rattle.std.proofs.Common.{◌≡◌, ◌+◌, replicate, None, vec_items, refl, rules}
use Rattle.keeper_tree.proofs.Climbs.{places_blank}
use Rattle.keeper_tree.proofs.tree.Tree.new.Goals as goal

pub returns : goal.returns
returns c =
    let n = c.args.places in
    let e : vec_items c.in_ok-nodes.nodes ≡ replicate (n + n) None = search rules in
    let blank = places_blank n (n + n) (vec_items c.in_ok-nodes.nodes) refl e in
    cc
