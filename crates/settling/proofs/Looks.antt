-- Whether a visit goes on, and what is taken in it.
use Rattle.std.proofs.Common.{◌≡◌, ℕ, ◌+◌, ◌-◌, ◌<◌, Bool, true, false, eqb, List, ◌∷◌, length, Some, None, MatchBool, Option, sym, refl, ap, ◌∙◌, subst, inl, inr, arith, MatchOption}
use Rattle.std.specs.Option.{is_some}
use Rattle.std.proofs.lemmas.Bool.{eqb-true, eqb-false, cases_lt}
use Rattle.std.proofs.lemmas.List.{get_or_past}
use Rattle.network.specs.Network.{Network}
use Rattle.tree.specs.Tree.{Tree}
use Rattle.tree.proofs.Words.{some_none, same_some}
use Rattle.walk.specs.declared.frame.Frame.{Frame}
use Rattle.walk.specs.State.{Shelf, Core, Changed, shelved}
use Rattle.walk.specs.Rules.{Lowest}
use Rattle.walk.specs.Steps.{Going, Ended, risen, coarse, Now, Taken, Step, leave, end}
use Rattle.walk.proofs.Handover.{placed_moved}
use Rattle.walk.proofs.Runs.{changed_set}
use Rattle.shelf.specs.Holds.{Holds, Bare, bucket_at, lifted}
use Rattle.keeper.specs.Keeps.{Keeps}
use Rattle.settling.specs.declared.trail.Trail.{Trail}
use Rattle.settling.specs.Means.{base_of, count_of, shelf_of, core_of}
use Rattle.settling.specs.Asks.{Brought}
use Rattle.settling.specs.Parts.{Watch, Counting, FoundEmpty}

-- what is there is some number
pub some_where : (o : Option ℕ) → is_some o ≡ true → (x : ℕ) × (o ≡ Some x)
some_where None e = let z : false ≡ true = e in absurd (cc)
some_where (Some x) e = (x, refl)

module _ (t : Tree) (s : Core) (f : Frame) (d : ℕ) (l : Lowest t s.so_far f.node d) (watch : Watch t s.final s.so_far f.node) where
  pub going_root : t.parent f.node ≡ None → Going t s f
  going_root top = record { more = record { u = l.at; inside = l.inside; unvisited = watch.fresh l.at d l.known }; same = λ p e. absurd (some_none e top) }

  pub decided : (p k : ℕ) → Some p ≡ t.parent f.node → k ≡ coarse t f.node p (s.count f.node) → (r : Bool) → r ≡ eqb k f.began
      → MatchBool r (Going t s f) (Ended t s f)
  decided p k up is true e =
      record {
        more = record { u = l.at; inside = l.inside; unvisited = watch.fresh l.at d l.known };
        same = λ q w. let pq : p ≡ q = same_some (sym up) w in
            subst (λ (z : ℕ). coarse t f.node z (s.count f.node) ≡ f.began) pq (sym is ∙ eqb-true k f.began (sym e));
      }
  decided p k up is false e = risen p (sym up) (λ w. eqb-false k f.began (sym e) (is ∙ w))

-- the visit f is over
module _ (g : Network) (t : Tree) (s : Core) (f : Frame) (fs : List Frame) (ended : Ended t s f) where
  pub step_leave : (h' : Shelf) (p : ℕ) → t.parent f.node ≡ Some p → s.shelf.bucket f.node ≡ None → Brought t s f.node h'
      → Step g t (record { core = s; frames = f ∷ fs }) (record { core = shelved s h'; frames = fs })
  step_leave h' p up free br = leave f fs p br.to h' refl ended up br.belongs (placed_moved free br.moved)

  pub step_end : t.parent f.node ≡ None → Step g t (record { core = s; frames = f ∷ fs }) (record { core = s; frames = fs })
  step_end up = end f fs refl ended up

pub in_items : (h : Holds) (c b : ℕ) → bucket_at h c ≡ Some b → c < length h.at
in_items h c b e = elim (cases_lt c (length h.at)) [ inl l ↦ l | inr l ↦ absurd (some_none e (get_or_past h.at c None l)) ]

-- the bucket b of x at which its counter stands was looked into
module _ (t : Tree) (w : Trail) (h h' : Holds) (k : Keeps) (x start b : ℕ) (counting : Counting t (core_of t w h k) x) (based : Some start ≡ base_of w x)
    (is : b ≡ t.first x + (count_of w x - start)) where
  at_bucket : Now (core_of t w h k) x (count_of w x - start)
  at_bucket =
      let e : counting.start ≡ start = same_some counting.based (sym based) in
      record { start = start; based = sym based; spot = omega (arith, counting.from, e) }

  pub looked : (r : Option ℕ) → MatchOption r (Bare h b × (h' ≡ h)) (λ i. (bucket_at h i ≡ Some b) × (h' ≡ lifted h i))
      → MatchOption r (FoundEmpty t (core_of t w h k) x (shelf_of h')) (λ c. Taken t (core_of t w h k) x c (shelf_of h'))
  looked None e = record { k = count_of w x - start; now = at_bucket; bare = λ c q. e.0 c (q ∙ ap Some (sym is)); same = ap shelf_of e.1 }
  looked (Some c) e =
      record {
        k = count_of w x - start;
        now = at_bucket;
        item = e.0 ∙ ap Some is;
        off = subst (λ (z : Holds). Changed (bucket_at h) c None (bucket_at z)) (sym e.1) (changed_set h.at c None None (in_items h c b e.0));
        puts = ap (λ (z : Holds). z.puts) e.1;
      }
