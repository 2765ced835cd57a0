use Rattle.std.proofs.Common.{ℕ, ◌/◌, ◌^◌, ◌<◌, length, vec_items, sym, ap, subst, arith}
use Rattle.walk.specs.State.{Core}
use Rattle.walk.proofs.Handover.{child_ready}
use Rattle.settling.specs.Means.{core_at, Opened, tree_at}
use Rattle.settling.specs.Parts.{Grown}
use Rattle.settling.proofs.Trails.{opened_base, opened_count}
use Rattle.settling.proofs.Walkers.{same_rest, grown_is}
use Rattle.settling.proofs.walker.Walker.expand.Given as given
use Rattle.settling.proofs.walker.Walker.expand.Goals as goal
use Rattle.tree.specs.Tree.{width}
use Rattle.settling.proofs.walker.Walker.expand.Goals.{After-open}

opened : (g : given.Over) (c : After-open g)
    → Opened c.args.self.now.trail c.open.new.self c.args.node (c.in-Some.d / width (tree_at c.args.self.now) c.args.node)
opened g c =
    subst (λ (b : ℕ). Opened c.args.self.now.trail c.open.new.self c.args.node b) (ap (λ (s : ℕ). c.in-Some.d / 2 ^ s) c.shift_of.ensures.is) c.open.ensures

listed : (g : given.Over) (c : After-open g) → c.args.node < length (vec_items c.args.self.now.trail.nodes)
listed g c = omega (arith, c.requires.listed, c.args.self.now.nodes, c.args.self.now.trail.nodes.ok.0)

pub put_children-requires-clause-ready : goal.put_children-requires-clause-ready
put_children-requires-clause-ready g c =
    let at = (goal.at.put_children-requires-clause-ready g c).After-open in
    λ x up. child_ready c.in-Some.ensures (opened_base _ _ _ (listed g at) _ (opened g at)) up

pub returns-clause-grown : goal.returns-clause-grown
returns-clause-grown g c =
    let at = (goal.at.returns-clause-grown g c).After-open in
    let x = c.args.node in
    let w = c.args.self.now.trail in
    let w₁ = c.open.new.self in
    let h = g.S.Shelf.meaning c.args.self.now.shelf in
    let put = c.put_children in
    let only = put.ensures.only_shelf in
    let same = same_rest h (g.S.Shelf.meaning put.new.self.shelf) only.kept.map only.trail (ap g.K.Keeper.meaning only.keeper) in
    subst (λ (z : Core). Grown (tree_at c.args.self.now) x (core_at c.args.self.now) z) (sym same) (record {
      d = c.in-Some.d;
      expand = record {
        lowest = c.in-Some.ensures;
        base = opened_base w w₁ x (listed g at) _ (opened g at);
        count = opened_count w w₁ x (listed g at) _ (opened g at);
        puts = put.ensures.puts;
      };
      rest = grown_is (tree_at c.args.self.now) w w₁ (g.K.Keeper.meaning c.args.self.now.keeper) h (core_at put.new.self).shelf x _ (opened g at);
    })
