-- What the laws of the walk give to a step.
use Rattle.std.proofs.Common.{◌≡◌, ℕ, suc, ◌+◌, ◌*◌, ◌^◌, ◌<◌, ◌≤◌, List, ◌∷◌, Some, None, sym, refl, ap, ◌∙◌, subst, add-one, arith}
use Rattle.network.specs.Network.{Network}
use Rattle.tree.specs.Tree.{Tree, Inner}
use Rattle.tree.proofs.Nodes.{station_only}
use Rattle.walk.specs.declared.frame.Frame.{Frame}
use Rattle.walk.specs.State.{Shelf, Core, called, shelved}
use Rattle.walk.specs.Rules.{begun}
use Rattle.walk.specs.Steps.{Open, Going, Taken, Visiting, Step, Walk, then}
use Rattle.walk.specs.Laws.{Given, most_moves}
use Rattle.walk.proofs.Handover.{able, visit_safe, visiting_short, counters_short}
use Rattle.walk.proofs.Keep.{change}
use Rattle.settling.specs.Asks.{Callable}

module _ (g : Network) (t : Tree) (src n : ℕ) (s : Core) (f : Frame) (fs : List Frame) (given : Given g t src) (limit : most_moves g t < 65535)
    (walk : Walk g t src n (record { core = s; frames = f ∷ fs })) (spreads : (x : ℕ) → Inner t x → t.spread x ≤ 511 * 4294967295) where
  pub callable : (v : ℕ) (h₁ : Shelf) → Going t s f → Taken t s f.node v h₁ → v < t.stations → Callable g t (shelved s h₁) v
  callable v h₁ going taken st =
      record {
        known = λ e. (able given limit walk refl).known v going.more (record { k = taken.k; now = taken.now; item = taken.item })
            (λ u i. ap s.so_far (station_only given.fits st i.below) ∙ e);
        short = λ d e. omega (arith, visiting_short given limit walk (511 * 4294967295) spreads (now_visiting d e));
        safe = λ d final' so_far' call. visit_safe given limit walk refl going taken st (record { known = call.known; final = call.final; so_far = call.so_far });
      }
    where
      now_visiting : (d : ℕ) → s.so_far v ≡ Some d
          → Visiting g t (record { core = s; frames = f ∷ fs }) v d 0
          (called s (change s.final v (Some d)).to (change s.so_far v None).to h₁)
      now_visiting d e =
          record {
            f = f;
            fs = fs;
            top = refl;
            going = going;
            h' = h₁;
            taken = taken;
            station = st;
            final' = (change s.final v (Some d)).to;
            so_far' = (change s.so_far v None).to;
            call = record { known = e; final = (change s.final v (Some d)).set; so_far = (change s.so_far v None).set };
            links = begun;
          }

  pub short : Open t s.final f.node → s.count f.node + 1 < 2 ^ 64
  short more =
      let a = able given limit walk refl in omega (arith, counters_short given limit walk (511 * 4294967295) spreads f.node a.start a.based more)

-- a walk and one step more
pub walked_on : (g : Network) (t : Tree) (src n : ℕ) (core core' : Core) (frames frames' top turned : List Frame) → Walk g t src n (record { core = core; frames = frames })
    → frames ≡ top → Step g t (record { core = core; frames = top }) (record { core = core'; frames = turned }) → frames' ≡ turned
    → Walk g t src (n + 1) (record { core = core'; frames = frames' })
walked_on g t src n core core' frames frames' top turned walk is step becomes =
    subst (λ (m : ℕ). Walk g t src m (record { core = core'; frames = frames' })) (sym (add-one n))
    (subst (λ (z : List Frame). Walk g t src (suc n) (record { core = core'; frames = z })) (sym becomes)
    (then (subst (λ (z : List Frame). Walk g t src n (record { core = core; frames = z })) is walk) step))
