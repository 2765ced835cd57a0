use Rattle.std.proofs.Common.{◌<◌, ◌≢◌, Some, arith, rules}
use Rattle.walk.specs.Rules.{Belongs}
use Rattle.shelf.specs.Holds.{bucket_at}
use Rattle.map.specs.Means.{tree_of}
use Rattle.settling.specs.Means.{base_of, sofar_of}
use Rattle.settling.proofs.Places.{granted, belongs_low, may_put, brought_moved}
use Rattle.settling.proofs.walker.Walker.bring.Goals as goal

pub returns-in-Some-clause-brought : goal.returns-in-Some-clause-brought
returns-in-Some-clause-brought g c =
    let m = c.args.self.now.map.now in
    let t = tree_of m in
    let w = c.args.self.now.trail in
    let k = g.K.Keeper.meaning c.args.self.now.keeper in
    let h = g.S.Shelf.meaning c.args.self.now.shelf in
    let h₁ = g.S.Shelf.meaning c.lift.new.self in
    let len = g.met.S.Shelf.sized c.args.self.now.shelf in
    let lt : c.args.node < h.items = omega (arith, c.requires.listed, c.args.self.now.items) in
    let there : Belongs t (sofar_of t k) (base_of w) c.args.node (Some c.in-Some.b) = rw c.in-Some.is at c.belongs-to.ensures in
    let elsewhere : bucket_at h c.args.node ≢ Some c.in-Some.b = search rules in
    let low = belongs_low t (sofar_of t k) (base_of w) c.args.node c.in-Some.b c.requires.tree there in
    let f =
    may_put t w k c.args.node h len c.requires.listed lt h₁ c.in-Some.b
    (omega (arith, low, c.args.self.now.buckets)) c.requires.few c.lift.ensures in
    let e = (granted c.put.result c.put.ensures.done c.put.ensures.refused f).1 in
    brought_moved t w k c.args.node h len c.requires.listed lt h₁ _ c.in-Some.b low c.requires.few there elsewhere
    (g.met.S.Shelf.sized c.lift.new.self) c.lift.ensures e
