-- What a walk that acts has to know before: its differences do not fall below 0, what it looks for is there, and no put is refused.
use Rattle.std.proofs.Common.{◌≡◌, ℕ, zero, suc, ◌+◌, ◌-◌, ◌/◌, ◌<◌, ◌≤◌, ◌≢◌, ◌⊎◌, List, ◌∷◌, Some, None, Option, sym, refl, ap, ◌∙◌, subst, inl, inr, le-div_iff_mul-le, arith}
use native.Mathlib.Decide.{ℕ_discrete, dec_lt, dec_le}
use Rattle.network.specs.Network.{Network, Hop, Attained}
use Rattle.tree.specs.Tree.{Tree, Below, self, up, In, Fits, width}
use Rattle.tree.proofs.Nodes.{below_trans, in_parent, node_of, station_only, rooted, tell, exists}
use Rattle.tree.proofs.Routes.{ends}
use Rattle.tree.proofs.Words.{some_none, same_some}
use Rattle.walk.specs.declared.frame.Frame.{Frame}
use Rattle.walk.specs.State.{Core}
use Rattle.walk.specs.Rules.{Lowest, Nothing, Falls, Belongs, falls, unknown, within, past, Granted}
use Rattle.walk.specs.Able.{Fronted}
use Rattle.walk.proofs.Lines.{suc_line, line_mono, line_lt, width_pos}
use Rattle.walk.proofs.Invariant.{On, Expanded, Standing, loose, fresh, visiting, through, waiting, Facts}
use Rattle.walk.proofs.Keep.{top_expanded, the_stack}
use Rattle.walk.proofs.Pass.{expanded_up}

-- the least among the stations below n, or none
record Low (t : Tree) (so_far : ℕ → Option ℕ) (x n : ℕ) : Type 0 where
  pub d : ℕ
  pub at : ℕ
  pub inside : Below t at x
  pub small : at < n
  pub known : so_far at ≡ Some d
  pub least : (u y : ℕ) → u < n → Below t u x → so_far u ≡ Some y → d ≤ y

abbrev High : Tree → (ℕ → Option ℕ) → ℕ → ℕ → Type 0
High t so_far x n = (u : ℕ) → u < n → Below t u x → so_far u ≡ None

low : {g : Network} {t : Tree} → Fits g t → (so_far : ℕ → Option ℕ) (x n : ℕ) → Low t so_far x n ⊎ High t so_far x n
low fits so_far x zero = inr (λ u h. absurd (omega arith))
low {g} {t} fits so_far x (suc n) = go (tell fits n x) (so_far n) refl (low fits so_far x n)
  where
    last : {u : ℕ} → u < suc n → u ≢ n → u < n
    last h z = omega arith

    -- n is not known, or not in x
    skip : ((y : ℕ) → Below t n x → so_far n ≡ Some y → ⊥) → (Below t n x → so_far n ≡ None) → Low t so_far x n ⊎ High t so_far x n
        → Low t so_far x (suc n) ⊎ High t so_far x (suc n)
    skip no_n none_n (inl l) =
        inl (record {
          d = l.d;
          at = l.at;
          inside = l.inside;
          small = omega (arith, l.small);
          known = l.known;
          least =
              λ u y h b e. elim (ℕ_discrete u n) [
                | yes z ↦ absurd (no_n y (subst (λ a. Below t a x) z b) (ap so_far (sym z) ∙ e))
                | no z ↦ l.least u y (last h z) b e
              ];
        })
    skip no_n none_n (inr f) = inr (λ u h b. elim (ℕ_discrete u n) [ yes z ↦ ap so_far z ∙ none_n (subst (λ a. Below t a x) z b) | no z ↦ f u (last h z) b ])

    -- n is at y, and nothing before it is nearer
    here : (y : ℕ) → Below t n x → so_far n ≡ Some y → ((u w : ℕ) → u < n → Below t u x → so_far u ≡ Some w → y ≤ w) → Low t so_far x (suc n) ⊎ High t so_far x (suc n)
    here y b e f =
        inl (record {
          d = y;
          at = n;
          inside = b;
          small = omega arith;
          known = e;
          least = λ u w h c q. elim (ℕ_discrete u n) [ yes z ↦ (let a : w ≡ y = same_some (ap so_far (sym z) ∙ q) e in omega arith) | no z ↦ f u w (last h z) c q ];
        })

    go : Dec (Below t n x) → (o : Option ℕ) → so_far n ≡ o → Low t so_far x n ⊎ High t so_far x n → Low t so_far x (suc n) ⊎ High t so_far x (suc n)
    go (no b) o e r = skip (λ y c. absurd (b c)) (λ c. absurd (b c)) r
    go (yes b) None e r = skip (λ y c q. some_none q e) (λ c. e) r
    go (yes b) (Some y) e (inr f) = here y b e (λ u w h c q. absurd (some_none q (f u h c)))
    go (yes b) (Some y) e (inl l) = elim (dec_le y l.d) [
      | yes r ↦ here y b e (λ u w h c q. omega (arith, l.least u w h c q))
      | no r ↦ inl (record {
        d = l.d;
        at = l.at;
        inside = l.inside;
        small = omega (arith, l.small);
        known = l.known;
        least =
            λ u w h c q. elim (ℕ_discrete u n) [
              | yes z ↦ (let a : w ≡ y = same_some (ap so_far (sym z) ∙ q) e in omega arith)
              | no z ↦ l.least u w (last h z) c q
            ];
      })
    ]

-- the least of a node: what a keeper answers
pub least_of : {g : Network} {t : Tree} → Fits g t → (so_far : ℕ → Option ℕ) (x : ℕ) → ((d : ℕ) × Lowest t so_far x d) ⊎ Nothing t so_far x
least_of {g} {t} fits so_far x =
    elim (low fits so_far x t.stations) [
      | inl l ↦ inl (
        l.d,
        record {
          at = l.at;
          inside = record { station = l.small; below = l.inside };
          known = l.known;
          least = λ u y i e. l.least u y i.station i.below e;
        },
      )
      | inr f ↦ inr (λ u i. f u i.station i.below)
    ]

-- the bucket in which a child belongs, once its least is known not to be below the base of its parent
pub record Place (t : Tree) (so_far base : ℕ → Option ℕ) (c : ℕ) : Type 0 where
  pub b : Option ℕ
  pub belongs : Belongs t so_far base c b

pub place : {g : Network} {t : Tree} (fits : Fits g t) {so_far base : ℕ → Option ℕ} {c x : ℕ} → t.parent c ≡ Some x → (e : Expanded base x)
    → ((d : ℕ) → Lowest t so_far c d → e.start ≤ d / width t x) → Place t so_far base c
place {g} {t} fits {so_far} {base} {c} {x} h e above = go (least_of fits so_far c)
  where
    go : ((d : ℕ) × Lowest t so_far c d) ⊎ Nothing t so_far c → Place t so_far base c
    go (inr n) = record { b = None; belongs = unknown n refl }
    go (inl (d, l)) = slot (dec_lt (d / width t x - e.start) (t.buckets x))
      where
        f : Falls t so_far base c x (d / width t x - e.start)
        f = record { parent = h; start = e.start; based = e.based; least = d; lowest = l; spot = omega (arith, above d l) }

        slot : Dec (d / width t x - e.start < t.buckets x) → Place t so_far base c
        slot (yes r) = record { b = Some (t.first x + (d / width t x - e.start)); belongs = falls x (d / width t x - e.start) f (within r refl) }
        slot (no r) = record { b = None; belongs = falls x (d / width t x - e.start) f (past (omega arith) refl) }

-- the shelf puts a child where it belongs
pub granted : {g : Network} {t : Tree} (fits : Fits g t) {so_far base : ℕ → Option ℕ} {c puts k : ℕ} {b : Option ℕ} → puts < 65535
    → Belongs t so_far base c b → b ≡ Some k → Granted t puts c k
granted fits few (unknown a z) e = absurd (some_none e z)
granted fits few (falls x j f (past l z)) e = absurd (some_none e z)
granted {t = t} fits {c = c} few (falls x j f (within l z)) e =
    record { item = node_of fits f.parent; bucket = omega (arith, same_some z e, exists fits j (fits.inner c x f.parent) l); few = few }

module _ {g : Network} {t : Tree} (fits : Fits g t) {src : ℕ} {s : Core} {fs : List Frame} {lim : ℕ → ℕ} (facts : Facts g t src s fs lim) where
  -- a counter is not below its base
  pub base_le : (x β : ℕ) → s.base x ≡ Some β → β ≤ s.count x
  base_le x β e =
      let h : β < suc (s.count x) =
      line_lt β (suc (s.count x)) (width t x) (omega
      (arith, facts.limits.later x β e, facts.limits.cap x β e, suc_line (s.count x) (width t x), width_pos t x)) in
      omega arith

  -- nor is a route to an unvisited station of x
  pub start_le : {x u d : ℕ} (e : Expanded s.base x) → In t u x → s.final u ≡ None → Attained g src u d → e.start ≤ d / width t x
  start_le {x} {u} {d} e i h a =
      (le-div_iff_mul-le (width_pos t x)).1
      (omega (
        arith,
        facts.limits.far x e.start u a.links e.based i h a.route,
        a.total,
        line_mono e.start (s.count x) (width t x) (base_le x e.start e.based),
      ))

  -- so the least of a child is not below the base of its parent
  pub least_above : {c x : ℕ} → t.parent c ≡ Some x → (e : Expanded s.base x) → (d : ℕ) → Lowest t s.so_far c d → e.start ≤ d / width t x
  least_above h e d l = let f = facts.delays.found l.at d l.known in start_le e (in_parent h l.inside) f.unvisited f.attained

  -- what is visited stands nowhere
  pub top_free : {f : Frame} {gs : List Frame} → fs ≡ f ∷ gs → s.shelf.bucket f.node ≡ None
  top_free {f} {gs} ef = go (facts.stands f.node)
    where
      go : Standing t s fs lim f.node (s.shelf.bucket f.node) → s.shelf.bucket f.node ≡ None
      go (loose h e) = e
      go (visiting o e) = e
      go (through h a e) = e
      go (fresh p β h b n bel) = absurd (some_none (top_expanded (the_stack fits facts ef)).based n)
      go (waiting p β γ k h b e n op l m w sl) = absurd (n (subst (λ z. On z f.node) (sym ef) (inl refl)))

  -- so do the children of an unexpanded node
  pub child_free : {c x : ℕ} → t.parent c ≡ Some x → s.base x ≡ None → s.shelf.bucket c ≡ None
  child_free {c} {x} h n = go (facts.stands c)
    where
      go : Standing t s fs lim c (s.shelf.bucket c) → s.shelf.bucket c ≡ None
      go (loose h e) = e
      go (visiting o e) = e
      go (through h a e) = e
      go (fresh p β q b m bel) = absurd (some_none b (ap s.base (same_some q h) ∙ n))
      go (waiting p β γ k q b e m op l r w sl) = absurd (some_none b (ap s.base (same_some q h) ∙ n))

  climb : {u c r : ℕ} → Below t u c → s.base c ≡ None → Below t c r → Expanded s.base r → Fronted t s.base u
  climb b n self e = absurd (some_none e.based n)
  climb {u} {c} b n (up {p = m} h r) e = go (s.base m) refl (λ n'. climb (below_trans b (up h self)) n' r e)
    where
      go : (o : Option ℕ) → s.base m ≡ o → (s.base m ≡ None → Fronted t s.base u) → Fronted t s.base u
      go None q later = later q
      go (Some β) q later = record { c = c; front = record { holds = b; shut = n; x = m; parent = h; start = β; based = q } }

  -- stations are not expanded
  pub station_shut : {u : ℕ} → u < t.stations → s.base u ≡ None
  station_shut {u} n = go (s.base u) refl
    where
      go : (o : Option ℕ) → s.base u ≡ o → s.base u ≡ None
      go None e = e
      go (Some β) e = absurd (omega (arith, (facts.grown.inner u β e).above))

  -- an unvisited station next to a visited one has its front
  pub front_of : {v d u k : ℕ} → v < t.stations → s.final v ≡ Some d → s.final u ≡ None → Hop g k v u → Fronted t s.base u
  front_of {v} {d} {u} {k} small seen unseen j = go (t.parent v) refl
    where
      go : (o : Option ℕ) → t.parent v ≡ o → Fronted t s.base u
      go None e = absurd (some_none seen (ap s.final (sym (station_only fits small (fits.whole v k v u e self j))) ∙ unseen))
      go (Some p) e =
          let r = rooted fits p in
          climb self (station_shut (ends fits j)) (fits.whole r.root k v u r.top (up e r.below) j)
          (expanded_up fits facts (facts.grown.entered v d p seen e) r.below)
