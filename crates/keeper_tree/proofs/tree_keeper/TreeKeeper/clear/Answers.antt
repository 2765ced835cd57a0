use Rattle.std.proofs.Common.{◌≡◌, replicate, None, vec_items, vec_len, rules}
use Rattle.keeper_tree.proofs.Climbs.{places_blank}
use Rattle.keeper_tree.proofs.tree_keeper.TreeKeeper.clear.Goals as goal

pub returns : goal.returns
returns c =
    let s = c.args.self.now in
    let e : vec_items c.fill.new.self ≡ replicate (vec_len s.nodes) None = search rules in
    let blank = places_blank s.places (vec_len s.nodes) (vec_items c.fill.new.self) s.sized e in
    cc
