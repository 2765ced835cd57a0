use Rattle.std.proofs.Common.{◌+◌, sym, ap, subst, arith, rules}
use Rattle.walk.specs.State.{Core}
use Rattle.walk.specs.Rules.{Link, skip}
use Rattle.settling.specs.Means.{final_of, core_at, tree_at, net_at}
use Rattle.settling.proofs.Looks.{some_where}
use Rattle.settling.proofs.Trees.{walkable}
use Rattle.settling.proofs.Lowers.{hop_end, link_skip, link_keep, lowered_at, link_lower, Asked}
use Rattle.settling.proofs.Walkers.{same_rest}
use Rattle.settling.proofs.walker.Walker.lower_along.Given as given
use Rattle.settling.proofs.walker.Walker.lower_along.Goals as goal
use Rattle.settling.proofs.walker.Walker.lower_along.Goals.{After-lower}

asked : (g : given.Over) (c : After-lower g)
    → Asked (net_at c.args.self.now) (tree_at c.args.self.now) c.args.self.now.trail (g.K.Keeper.meaning c.args.self.now.keeper) c.args.v c.args.d c.args.k
    c.in-Some.u c.place_of-place.result (c.args.d + c.from.result)
asked g c =
    let m = c.args.self.now.map.now in
    let leads = c.in-Some.ensures (net_at c.args.self.now) c.args.k c.requires.entry in
    let st = hop_end c.requires.charted.fits leads.hop in
    record {
      hop = leads.hop;
      station = st;
      is_place = c.place_of-place.ensures;
      place = omega (arith, m.seated c.in-Some.u st, c.place_of-place.ensures, c.args.self.now.places);
      new = search rules;
      is_sum = search rules;
    }

pub returns-in_default-clause-link : goal.returns-in_default-clause-link
returns-in_default-clause-link g c = skip (λ u j. absurd (c.in_default.ensures (net_at c.args.self.now) c.args.k c.requires.entry u j))

pub returns-then-is_some-clause-link : goal.returns-then-is_some-clause-link
returns-then-is_some-clause-link g c =
    let leads = c.in-Some.ensures (net_at c.args.self.now) c.args.k c.requires.entry in
    let at = some_where (final_of c.args.self.now.trail c.in-Some.u) (search rules) in link_skip _ _ _ _ _ c.in-Some.u _ _ leads.only at.1

pub front-c-requires-clause-tree : goal.front-c-requires-clause-tree
front-c-requires-clause-tree g c = walkable c.requires.charted

pub bring-requires-clause-tree : goal.bring-requires-clause-tree
bring-requires-clause-tree g c = walkable c.requires.charted

pub bring-requires-clause-ready : goal.bring-requires-clause-ready
bring-requires-clause-ready g c =
    let a = asked g (goal.at.bring-requires-clause-ready g c).After-lower in
    let lo = c.lower.ensures.done c.if-lower.true in
    c.requires.apt.ready c.in-Some.u c.front-c.result _ a.hop a.new
    (lowered_at a (g.S.Shelf.meaning c.args.self.now.shelf) (g.K.Keeper.meaning c.lower.new.self) c.requires.charted.runs
    (g.met.K.Keeper.sized c.args.self.now.keeper) lo.1)
    c.front-c.ensures.is

pub returns-then-lower-clause-link : goal.returns-then-lower-clause-link
returns-then-lower-clause-link g c =
    let a = asked g (goal.at.returns-then-lower-clause-link g c).After-lower in
    let h = g.S.Shelf.meaning c.args.self.now.shelf in
    let lo = c.lower.ensures.done c.if-lower.true in
    let br = c.bring.ensures in
    let same = same_rest h (g.S.Shelf.meaning c.bring.new.self.shelf) br.only_shelf.kept.map br.only_shelf.trail (ap g.K.Keeper.meaning br.only_shelf.keeper) in
    subst (λ (z : Core). Link (net_at c.args.self.now) (tree_at c.args.self.now) c.args.v c.args.d c.args.k (core_at c.args.self.now) z) (sym same)
    (link_lower a h (g.K.Keeper.meaning c.lower.new.self) c.requires.charted.runs (g.met.K.Keeper.sized c.args.self.now.keeper)
    (core_at c.bring.new.self).shelf c.front-c.result lo.0 lo.1 c.front-c.ensures.is br.brought)

pub returns-else-lower-clause-link : goal.returns-else-lower-clause-link
returns-else-lower-clause-link g c =
    let a = asked g (goal.at.returns-else-lower-clause-link g c).After-lower in
    let hi = c.lower.ensures.refused c.if-lower.false in
    link_keep a (g.S.Shelf.meaning c.args.self.now.shelf) (g.K.Keeper.meaning c.lower.new.self) hi.0 hi.1

pub front-c-requires-clause-shut : goal.front-c-requires-clause-shut
front-c-requires-clause-shut g c =
    let leads = c.in-Some.ensures (net_at c.args.self.now) c.args.k c.requires.entry in
    c.requires.apt.shut c.in-Some.u (hop_end c.requires.charted.fits leads.hop)

pub front-c-requires-clause-fronted : goal.front-c-requires-clause-fronted
front-c-requires-clause-fronted g c =
    let leads = c.in-Some.ensures (net_at c.args.self.now) c.args.k c.requires.entry in
    c.requires.apt.front c.in-Some.u leads.hop (search rules)
