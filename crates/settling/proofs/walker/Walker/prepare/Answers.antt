use Rattle.std.proofs.Common.{◌<◌, arith}
use Rattle.map.specs.Means.{tree_of}
use Rattle.settling.proofs.Places.{granted}
use Rattle.settling.proofs.Begins.{blank, may_lower}
use Rattle.settling.proofs.walker.Walker.prepare.Goals as goal

pub returns-clause-blank : goal.returns-clause-blank
returns-clause-blank g c =
    let m = c.args.self.now.map.now in
    let n = (g.K.Keeper.meaning c.args.self.now.keeper).places in
    let k₁ = g.K.Keeper.meaning c.clear-3.new.self in
    let pl : c.place_of-place.result < n = omega (arith, m.seated c.args.source c.requires.source, c.place_of-place.ensures, c.args.self.now.places) in
    let e = (granted c.lower.result c.lower.ensures.done c.lower.ensures.refused (may_lower n c.place_of-place.result 0 k₁ c.clear-3.ensures pl)).1 in
    blank (tree_of m) c.args.self.now.trail c.clear.new.self (g.S.Shelf.meaning c.args.self.now.shelf) (g.S.Shelf.meaning c.clear-2.new.self) k₁
    (g.K.Keeper.meaning c.lower.new.self) n c.args.source c.place_of-place.result c.requires.tree.runs c.requires.source c.clear.ensures c.clear-2.ensures
    c.clear-3.ensures (g.met.K.Keeper.sized c.clear-3.new.self) c.place_of-place.ensures pl e
