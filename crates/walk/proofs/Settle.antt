-- Every walk keeps the invariant, and so a run settles the network.
use Rattle.std.proofs.Common.{◌≡◌, ℕ, ◌<◌, List, Some, None, Option, refl}
use Rattle.network.specs.Network.{Network, Route}
use Rattle.tree.specs.Tree.{Tree, Fits}
use Rattle.tree.proofs.Nodes.{rooted}
use Rattle.tree.proofs.Routes.{stay, route_ends}
use Rattle.walk.specs.State.{State}
use Rattle.walk.specs.Rules.{falls, unknown}
use Rattle.walk.specs.Steps.{Step, visit, expand, again, rise, leave, end, Walk, begin, then}
use Rattle.walk.specs.Laws.{EveryRunSettles}
use Rattle.walk.proofs.Invariant.{Standing, loose, fresh, visiting, through, waiting, Inv}
use Rattle.walk.proofs.Visit.{visit_step}
use Rattle.walk.proofs.Rise.{rise_step}
use Rattle.walk.proofs.Leave.{leave_step, end_step}
use Rattle.walk.proofs.Taken.{again_step, expand_step}
use Rattle.walk.proofs.Start.{begin_inv}
use Rattle.walk.proofs.Take.{due}

pub step_inv : {g : Network} {t : Tree} (fits : Fits g t) {src : ℕ} {s s₁ : State} → Inv g t src s → Step g t s s₁ → Inv g t src s₁
step_inv fits i (visit v d s₁ vis) = visit_step fits i vis
step_inv fits i (expand f fs c d h base' count' h' ef going tk big shut ex) = expand_step fits i ef going tk big shut ex
step_inv fits i (again f fs c β h ef going tk big based) = again_step fits i ef going tk based
step_inv fits i (rise f fs k count' ef going now bare set) = rise_step fits i ef going now bare set
step_inv fits i (leave f fs p b h' ef ended up_p bel put) = leave_step fits i ef ended up_p bel put
step_inv fits i (end f fs ef ended h) = end_step fits i ef ended h

pub walk_inv : {g : Network} {t : Tree} (fits : Fits g t) {src : ℕ} → src < t.stations → {k : ℕ} {s : State} → Walk g t src k s → Inv g t src s
walk_inv fits n (begin b) = begin_inv fits n b
walk_inv fits n (then w p) = step_inv fits (walk_inv fits n w) p

pub settles : EveryRunSettles
settles g t src s given run =
    record {
      least = i.facts.delays.exact;
      no_route = λ v e ks p. reach v e ks p;
      keeper = λ u. nothing u (s.core.so_far u) refl;
      shelf = λ c. nowhere c (i.facts.stands c);
    }
  where
    fits : Fits g t
    fits = given.fits

    i : Inv g t src s
    i = walk_inv given.fits given.station run.walk

    reach : (v : ℕ) → s.core.final v ≡ None → (ks : List ℕ) → ¬ Route g src ks v
    reach v e ks p =
        let r = rooted given.fits src in
        i.over run.over r.root r.top r.below (record {
          u = v;
          inside = record { station = route_ends given.fits given.station p; below = stay given.fits r.top r.below p };
          unvisited = e;
        })

    known : (u y : ℕ) → s.core.so_far u ≡ Some y → ⊥
    known u y k = let f = i.facts.delays.found u y k in reach u f.unvisited f.attained.links f.attained.route

    nothing : (u : ℕ) (o : Option ℕ) → s.core.so_far u ≡ o → s.core.so_far u ≡ None
    nothing u None k = k
    nothing u (Some y) k = absurd (known u y k)

    nowhere : (c : ℕ) → Standing t s.core s.frames i.lim c (s.core.shelf.bucket c) → s.core.shelf.bucket c ≡ None
    nowhere c (loose h k) = k
    nowhere c (fresh p β h b m (unknown a k)) = k
    nowhere c (fresh p β h b m (falls x j l sl)) = absurd (known l.lowest.at l.least l.lowest.known)
    nowhere c (visiting o k) = k
    nowhere c (through h a k) = k
    nowhere c (waiting p β γ j h b d m op l k w sl) = let z = due given.fits i.facts i.looked c γ d op in absurd (known z.u z.y z.known)
