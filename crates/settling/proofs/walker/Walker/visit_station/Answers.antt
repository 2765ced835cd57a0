use Rattle.std.proofs.Common.{◌≡◌, ◌<◌, length, None, vec_items, sym, subst, arith}
use Rattle.walk.specs.State.{Core, called}
use Rattle.walk.specs.Rules.{Call, Links}
use Rattle.walk.specs.Able.{Safe}
use Rattle.map.specs.Means.{tree_of}
use Rattle.settling.specs.Means.{final_of, sofar_of, core_at, net_at, tree_at, core_of}
use Rattle.settling.proofs.Keepers.{changed_noted}
use Rattle.settling.proofs.Visits.{known_at, call_of, called_is}
use Rattle.settling.proofs.walker.Walker.visit_station.Given as given
use Rattle.settling.proofs.walker.Walker.visit_station.Goals as goal
use Rattle.settling.proofs.walker.Walker.visit_station.Goals.{After-retire}

call : (g : given.Over) (c : After-retire g)
    → Call (core_at c.args.self.now) c.args.v c.in-Some.d (final_of c.settle.new.self) (sofar_of (tree_at c.args.self.now) (g.K.Keeper.meaning c.retire.new.self))
call g c =
    let m = c.args.self.now.map.now in
    let t = tree_of m in
    let v = c.args.v in
    let place = c.place_of-place.result in
    let w = c.args.self.now.trail in
    let k = g.K.Keeper.meaning c.args.self.now.keeper in
    let k₁ = g.K.Keeper.meaning c.retire.new.self in
    let st = c.requires.station in
    let is = c.place_of-place.ensures in
    let pl : place < k.places = omega (arith, m.seated v st, is, c.args.self.now.places) in
    let lt : v < length (vec_items w.settled) = omega (arith, st, c.args.self.now.settled, w.settled.ok.0) in
    call_of t w c.settle.new.self (g.S.Shelf.meaning c.args.self.now.shelf) k k₁ v c.in-Some.d lt c.settle.ensures
    (known_at t k v place c.in-Some.d st is c.in-Some.ensures)
    (changed_noted t k k₁ v place None c.requires.charted.runs (g.met.K.Keeper.sized c.args.self.now.keeper) st is pl c.retire.ensures)

same : (g : given.Over) (c : After-retire g)
    → called (core_at c.args.self.now) (final_of c.settle.new.self) (sofar_of (tree_at c.args.self.now) (g.K.Keeper.meaning c.retire.new.self)) (core_at c.args.self.now).shelf
    ≡ core_of (tree_at c.args.self.now) c.settle.new.self (g.S.Shelf.meaning c.args.self.now.shelf) (g.K.Keeper.meaning c.retire.new.self)
same g c =
    called_is (tree_at c.args.self.now) c.args.self.now.trail c.settle.new.self (g.S.Shelf.meaning c.args.self.now.shelf)
    (g.K.Keeper.meaning c.args.self.now.keeper) (g.K.Keeper.meaning c.retire.new.self) c.args.v c.in-Some.d c.settle.ensures

pub follow_links-requires-clause-safe : goal.follow_links-requires-clause-safe
follow_links-requires-clause-safe g c =
    let at = (goal.at.follow_links-requires-clause-safe g c).After-retire in
    subst (λ (s : Core). Safe (net_at c.args.self.now) (tree_at c.args.self.now) s c.args.v c.in-Some.d) (same g at)
    (c.requires.callable.safe c.in-Some.d _ _ (call g at))

pub returns-clause-visited : goal.returns-clause-visited
returns-clause-visited g c =
    let net = net_at c.args.self.now in
    let t = tree_at c.args.self.now in
    let v = c.args.v in
    let d = c.in-Some.d in
    let at = (goal.at.returns-clause-visited g c).After-retire in
    record {
      d = d;
      final = final_of c.settle.new.self;
      so_far = sofar_of t (g.K.Keeper.meaning c.retire.new.self);
      call = call g at;
      links = subst (λ (s : Core). Links net t v d s (length net.rows) (core_at c.follow_links.new.self))
          (sym (same g at))
          c.follow_links.ensures.links;
    }
