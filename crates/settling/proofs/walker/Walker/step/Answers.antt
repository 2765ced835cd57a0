use Rattle.std.proofs.Common.{◌≡◌, ◌<◌, ◌≤◌, ◌∷◌, true, length, vec_items, ap, ◌∙◌, sym, subst, arith, rules}
use Rattle.network.specs.Schemes.{network_of}
use Rattle.walk.specs.State.{Core, shelved}
use Rattle.walk.specs.Steps.{Step, Going}
use Rattle.map.specs.Means.{tree_of}
use Rattle.settling.specs.Means.{core_at, count_of, tree_at, net_at}
use Rattle.settling.specs.Asks.{Walkable, Visited}
use Rattle.settling.proofs.Trees.{walkable}
use Rattle.settling.proofs.Trails.{risen_count}
use Rattle.settling.proofs.Turns.{step_rise, step_visit, step_enter}
use Rattle.settling.proofs.Walkers.{shelved_is, risen_is, kept_on, kept_back}
use Rattle.settling.specs.Turns.{Entered}
use Rattle.settling.proofs.walker.Walker.step.Given as given
use Rattle.settling.proofs.walker.Walker.step.Goals as goal
use Rattle.settling.proofs.walker.Walker.step.Goals.{Else-not-goes_on, After-take_next}

-- the visit goes on where the shelf is looked into
going : (g : given.Over) (c : Else-not-goes_on g) → Going (tree_at c.args.self.now) (core_at c.args.self.now) c.args.f
going g c = let e : c.goes_on.result ≡ true = search rules in rw e at c.goes_on.ensures

same : (g : given.Over) (c : After-take_next g) → core_at c.take_next.new.self ≡ shelved (core_at c.args.self.now) (core_at c.take_next.new.self).shelf
same g c = shelved_is c.args.self.now c.take_next.new.self c.take_next.ensures.only_shelf

pub goes_on-requires-clause-tree : goal.goes_on-requires-clause-tree
goes_on-requires-clause-tree g c = walkable c.requires.charted

pub leave-requires-clause-tree : goal.leave-requires-clause-tree
leave-requires-clause-tree g c = walkable c.requires.charted

pub enter-requires-clause-tree : goal.enter-requires-clause-tree
enter-requires-clause-tree g c = kept_on c.take_next.ensures.only_shelf.kept (λ z m. Walkable (tree_of m)) (walkable c.requires.charted)

pub returns-in_default-clause-step : goal.returns-in_default-clause-step
returns-in_default-clause-step g c =
    let on = (goal.at.returns-in_default-clause-step g c).Else-not-goes_on in
    let looked = (goal.at.returns-in_default-clause-step g c).After-take_next in
    let net = net_at c.args.self.now in
    let t = tree_at c.args.self.now in
    let s = core_at c.args.self.now in
    let w₁ = c.take_next.new.self in
    let x = c.args.f.node in
    let w' = c.rise.new.self in
    let found = c.in_default.ensures.looked in
    let lt : x < length (vec_items w₁.trail.nodes) =
    omega (arith, c.requires.able.inner.below, c.args.self.now.nodes, c.take_next.ensures.only_shelf.kept.nodes, w₁.trail.nodes.ok.0) in
    let risen = risen_is (tree_at w₁) w₁.trail w' (g.K.Keeper.meaning w₁.keeper) (g.S.Shelf.meaning w₁.shelf) x lt c.rise.ensures in
    λ fs. subst (λ (z : Core). Step net t (record { core = s; frames = c.args.f ∷ fs }) (record { core = z; frames = c.args.f ∷ fs })) (sym risen)
    (step_rise net t s c.args.f fs (going g on) (core_at w₁) (count_of w') (same g looked ∙ ap (shelved s) found.same) found (risen_count w₁.trail w' x lt c.rise.ensures))

pub returns-then-c-stations-clause-step : goal.returns-then-c-stations-clause-step
returns-then-c-stations-clause-step g c =
    let on = (goal.at.returns-then-c-stations-clause-step g c).Else-not-goes_on in
    let looked = (goal.at.returns-then-c-stations-clause-step g c).After-take_next in
    let kept = c.take_next.ensures.only_shelf.kept in
    let x = c.in-Some.c in
    let s₁ = core_at c.take_next.new.self in
    let s' = core_at c.visit_station.new.self in
    λ fs. step_visit (net_at c.args.self.now) (tree_at c.args.self.now) (core_at c.args.self.now) c.args.f fs (going g on) x s₁ s' s₁.shelf
    c.in-Some.ensures.looked (same g looked)
    (kept_back kept (λ z m. x < (tree_of m).stations) (omega (arith, c.stations.ensures)))
    (kept_back kept (λ z m. Visited (network_of z) (tree_of m) x s₁ s') c.visit_station.ensures.visited)

pub returns-clause-step : goal.returns-clause-step
returns-clause-step g c =
    let on = (goal.at.returns-clause-step g c).Else-not-goes_on in
    let looked = (goal.at.returns-clause-step g c).After-take_next in
    let kept = c.take_next.ensures.only_shelf.kept in
    let x = c.in-Some.c in
    let s₁ = core_at c.take_next.new.self in
    let s' = core_at c.enter.new.self in
    λ fs. step_enter (net_at c.args.self.now) (tree_at c.args.self.now) (core_at c.args.self.now) c.args.f fs (going g on) x s₁ s' s₁.shelf c.enter.result
    c.in-Some.ensures.looked (same g looked)
    (kept_back kept (λ z m. (tree_of m).stations ≤ x) (omega (arith, c.stations.ensures)))
    (kept_back kept (λ z m. Entered (tree_of m) x c.args.f.node s₁ s' c.enter.result) c.enter.ensures.entered)
