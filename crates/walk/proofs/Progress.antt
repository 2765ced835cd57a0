-- A walk that is not at its end has a next step.
use Rattle.std.proofs.Common.{◌≡◌, ℕ, zero, suc, ◌+◌, ◌-◌, ◌<◌, ◌≤◌, ◌⊎◌, List, [], ◌∷◌, length, Some, None, Option, sym, refl, ap, ◌∙◌, subst, inl, inr, arith}
use native.Mathlib.Decide.{ℕ_discrete, dec_lt}
use Rattle.network.specs.Network.{Network}
use Rattle.tree.specs.Tree.{Tree, Below, self, Fits}
use Rattle.tree.proofs.Nodes.{node_of, station_only, above_other, tell}
use Rattle.tree.proofs.Words.{some_none, same_some}
use Rattle.walk.specs.declared.frame.Frame.{Frame}
use Rattle.walk.specs.State.{Shelf, Core, State, called, counted}
use Rattle.walk.specs.Rules.{Call, begun}
use Rattle.walk.specs.Steps.{Open, Going, Now, Taken, Ended, risen, Visiting, visit, expand, again, rise, leave, end, Walk, coarse, entered, left}
use Rattle.walk.specs.Steps as steps
use Rattle.walk.specs.Laws.{Given, Next, NextBy, EveryWalkGoesOn, most_moves}
use Rattle.walk.proofs.Invariant.{Expanded, Inv}
use Rattle.walk.proofs.Keep.{change, top_expanded, the_stack}
use Rattle.walk.proofs.Take.{New, Again, item}
use Rattle.walk.proofs.Visit.{next_link, visiting_looking}
use Rattle.walk.proofs.Settle.{walk_inv}
use Rattle.walk.proofs.Moves.{moves_little, children_few}
use Rattle.walk.proofs.Ready.{place, base_le, least_above, top_free, child_free}
use Rattle.walk.proofs.Follow.{places, Expands, expands, follow}

-- a bounded search
find : (P : ℕ → Type 0) → ((u : ℕ) → Dec (P u)) → (n : ℕ) → ((u : ℕ) × (u < n) × P u) ⊎ ((u : ℕ) → u < n → ¬ P u)
find P dec zero = inr (λ u h. absurd (omega arith))
find P dec (suc n) = go (dec n) (find P dec n)
  where
    go : Dec (P n) → ((u : ℕ) × (u < n) × P u) ⊎ ((u : ℕ) → u < n → ¬ P u) → ((u : ℕ) × (u < suc n) × P u) ⊎ ((u : ℕ) → u < suc n → ¬ P u)
    go (yes p) r = inl (n, omega arith, p)
    go (no p) (inl r) = inl (r.0, omega (arith, r.1), r.2)
    go (no p) (inr r) = inr (λ u h q. elim (ℕ_discrete u n) [ yes z ↦ p (subst P z q) | no z ↦ r u (omega arith) q ])

is_none : (o : Option ℕ) → Dec (o ≡ None)
is_none None = yes refl
is_none (Some a) = no (λ e. some_none refl e)

is_some : (o : Option ℕ) (b : ℕ) → Dec (o ≡ Some b)
is_some None b = no (λ e. some_none e refl)
is_some (Some a) b = elim (ℕ_discrete a b) [ yes e ↦ yes (ap Some e) | no e ↦ no (λ q. e (same_some {o = Some a} refl q)) ]

-- whether x has an unvisited station
open_or_not : {g : Network} {t : Tree} → Fits g t → (final : ℕ → Option ℕ) (x : ℕ) → Open t final x ⊎ (¬ Open t final x)
open_or_not {g} {t} fits final x = elim (find (λ u. Below t u x × (final u ≡ None)) both t.stations) [
  | inl r ↦ inl (record { u = r.0; inside = record { station = r.1; below = r.2.0 }; unvisited = r.2.1 })
  | inr n ↦ inr (λ o. n o.u o.inside.station (o.inside.below, o.unvisited))
]
  where
    both : (u : ℕ) → Dec (Below t u x × (final u ≡ None))
    both u = go (tell fits u x) (is_none (final u))
      where
        go : Dec (Below t u x) → Dec (final u ≡ None) → Dec (Below t u x × (final u ≡ None))
        go (yes a) (yes b) = yes (a, b)
        go (yes a) (no b) = no (λ q. b q.1)
        go (no a) b = no (λ q. a q.0)

-- steps that take an item
module _ {g : Network} {t : Tree} {s : State} where
  visit_by : (v d : ℕ) (s₁ : Core) → Visiting g t s v d (length g.rows) s₁ → NextBy g t s v
  visit_by v d s₁ vis = record { next = record { to = record { core = s₁; frames = s.frames }; step = visit v d s₁ vis }; item = refl }

  expand_by : {f : Frame} {fs : List Frame} {c d : ℕ} {h : Shelf} → s.frames ≡ f ∷ fs → Going t s.core f → Taken t s.core f.node c h
      → t.stations ≤ c → s.core.base c ≡ None
      → Expands t s.core c d h → NextBy g t s c
  expand_by {f} {fs} {c} {d} {h} ef going tk big shut x =
      record {
        next = record {
          to = entered s c (coarse t c f.node (x.count' c)) x.base' x.count' x.h';
          step = expand f fs c d h x.base' x.count' x.h' ef going tk big shut x.expand;
        };
        item = refl;
      }

  again_by : {f : Frame} {fs : List Frame} {c : ℕ} {h : Shelf} → s.frames ≡ f ∷ fs → Going t s.core f → Taken t s.core f.node c h
      → t.stations ≤ c → Expanded s.core.base c → NextBy g t s c
  again_by {f} {fs} {c} {h} ef going tk big e =
      record {
        next = record {
          to = entered s c (coarse t c f.node (s.core.count c)) s.core.base s.core.count h;
          step = again f fs c e.start h ef going tk big e.based;
        };
        item = refl;
      }

module _ {g : Network} {t : Tree} {src : ℕ} (given : Given g t src) (limit : most_moves g t < 65535) {j : ℕ} {s : State} (w : Walk g t src j s) where
  i : Inv g t src s
  i = walk_inv given.fits given.station w

  few : s.core.shelf.puts < 65535
  few = omega (arith, (moves_little g t src j s given w).here)

  module _ {f : Frame} {fs : List Frame} (ef : s.frames ≡ f ∷ fs) where
    on : Expanded s.core.base f.node
    on = top_expanded (the_stack given.fits i.facts ef)

    -- the visit ends
    ends_there : Ended t s.core f → Next g t s
    ends_there ended = go (t.parent f.node) refl
      where
        go : (o : Option ℕ) → t.parent f.node ≡ o → Next g t s
        go None h = record { to = left s s.core.shelf fs; step = end f fs ef ended h }
        go (Some p) h =
            let e = i.facts.grown.upward f.node on.start p on.based h in
            let b = place given.fits h e (least_above given.fits i.facts h e) in
            let a = places given.fits s.core.shelf few (top_free given.fits i.facts ef) b.belongs in
            record { to = left s a.h' fs; step = leave f fs p b.b a.h' ef ended h b.belongs a.placed }

    -- the visit goes on: an item is taken
    module _ (going : Going t s.core f) {c : ℕ} {h' : Shelf} (tk : Taken t s.core f.node c h') where
      visits : {d : ℕ} {final' so_far' : ℕ → Option ℕ} → c < t.stations → Call s.core c d final' so_far' → (k : ℕ) → k ≤ length g.rows
          → (s₁ : Core) × Visiting g t s c d k s₁
      visits {d} {final'} {so_far'} n call zero h = (
        called s.core final' so_far' h',
        record {
          f = f;
          fs = fs;
          top = ef;
          going = going;
          h' = h';
          taken = tk;
          station = n;
          final' = final';
          so_far' = so_far';
          call = call;
          links = begun;
        },
      )
      visits {d} {final'} {so_far'} n call (suc k) h =
          let r = visits n call k (omega arith) in
          let v = r.1 in
          let z = visiting_looking given.fits i v in
          let l =
          follow given.fits z.facts n (ap (λ (a : ℕ → Option ℕ). a c) z.final ∙ v.call.final.at) {k = k}
          (omega (arith, (moves_little g t src j s given w).between c d k r.0 v)) h in
          (l.to, next_link v l.link)

      takes : New t s.core f.node c ⊎ Again t s.core s.frames i.lim f.node c → Dec (c < t.stations) → NextBy g t s c
      takes (inr a) (yes n) = absurd (omega (arith, (i.facts.grown.inner c a.expanded.start a.expanded.based).above))
      takes (inr a) (no n) = again_by ef going tk (omega arith) a.expanded
      takes (inl a) (no n) =
          expand_by ef going tk (omega arith) a.shut
          (expands given.fits {s = s.core} a.lowest h' (λ y q. tk.off.off y (λ z. above_other given.fits q self z) ∙ child_free
          given.fits i.facts q a.shut)
          (omega (arith, tk.puts, children_few given w c a.shut)))
      takes (inl a) (yes n) =
          let known = ap s.core.so_far (sym (station_only given.fits n a.lowest.inside.below)) ∙ a.lowest.known in
          let r =
          visits n (record {
            known = known;
            final = (change s.core.final c (Some a.least)).set;
            so_far = (change s.core.so_far c None).set;
          }) (length g.rows) (omega arith) in
          visit_by c a.least r.0 r.1

      pub by : NextBy g t s c
      by = takes (item given.fits i.facts going.more tk) (dec_lt c t.stations)

    going_there : Going t s.core f → Next g t s
    going_there going =
        look (find (λ c. s.core.shelf.bucket c ≡ Some (t.first f.node + k)) (λ c. is_some (s.core.shelf.bucket c) (t.first f.node + k)) t.nodes)
      where
        k : ℕ
        k = s.core.count f.node - on.start

        now : Now s.core f.node k
        now = record { start = on.start; based = on.based; spot = omega (arith, base_le given.fits i.facts f.node on.start on.based) }

        taken : (c : ℕ) → s.core.shelf.bucket c ≡ Some (t.first f.node + k) → (h' : Shelf) × Taken t s.core f.node c h'
        taken c e =
            let n = change s.core.shelf.bucket c None in
            (record { bucket = n.to; puts = s.core.shelf.puts }, record { k = k; now = now; item = e; off = n.set; puts = refl })

        small : (c : ℕ) → New t s.core f.node c ⊎ Again t s.core s.frames i.lim f.node c → c < t.nodes
        small c (inl a) = node_of given.fits a.parent
        small c (inr a) = node_of given.fits a.parent

        look : ((c : ℕ) × (c < t.nodes) × (s.core.shelf.bucket c ≡ Some (t.first f.node + k))) ⊎ ((c : ℕ) → c < t.nodes
            → ¬ (s.core.shelf.bucket c ≡ Some (t.first f.node + k))) → Next g t s
        look (inl r) = (by going (taken r.0 r.2).1).next
        look (inr n) =
            let a = change s.core.count f.node (suc (s.core.count f.node)) in
            record {
              to = record { core = counted s.core a.to; frames = s.frames };
              step = rise f fs k a.to ef going now (λ c e. n c (small c (item given.fits i.facts going.more (taken c e).1)) e) a.set;
            }

    pub next_step : Next g t s
    next_step = go (open_or_not given.fits s.core.final f.node) (t.parent f.node) refl
      where
        go : Open t s.core.final f.node ⊎ (¬ Open t s.core.final f.node) → (o : Option ℕ) → t.parent f.node ≡ o → Next g t s
        go (inr n) o h = ends_there (steps.through n)
        go (inl m) None h = going_there (record { more = m; same = λ p q. absurd (some_none q h) })
        go (inl m) (Some p) h = elim (ℕ_discrete (coarse t f.node p (s.core.count f.node)) f.began) [
          | yes e ↦ going_there (record { more = m; same = λ q z. ap (λ a. coarse t f.node a (s.core.count f.node)) (same_some z h) ∙ e })
          | no e ↦ ends_there (risen p h e)
        ]

pub goes_on : EveryWalkGoesOn
goes_on g t src k s given limit w = record { here = go s.frames refl; taking = λ f fs c h ef going tk. by given limit w ef going tk }
  where
    go : (fs : List Frame) → s.frames ≡ fs → (s.frames ≡ []) ⊎ Next g t s
    go [] e = inl e
    go (f ∷ fs) e = inr (next_step given limit w e)
