-- Searches that end: whether a link leads from one station to another, whether a delay is attained, and so the least delay itself.
use Rattle.std.proofs.Common.{◌≡◌, ℕ, zero, suc, ◌-◌, ◌<◌, ◌≤◌, Bool, true, false, ◌⊎◌, List, [], ◌∷◌, length, get_or, sym, refl, inl, inr, arith}
use native.Mathlib.Decide.{ℕ_discrete, dec_le, dec_lt}
use Rattle.std.proofs.lemmas.Bool.{both_ways}
use Rattle.network.specs.Network.{Network, Proper, Hop, Route, here, step, NoRoute, Attained, Least, row, delay, sum}
use Rattle.network.proofs.Routes.{each_hop, hop_stations, hop_delay}
use Rattle.network.proofs.Lists.{once, below, among_below, each_among}
use Rattle.network.proofs.Cuts.{tour_of, tour_route, tour_once}

pub both? : {A B : Type 0} → Dec A → Dec B → Dec (A × B)
both? (yes a) (yes b) = yes (a, b)
both? (yes a) (no m) = no (λ p. m p.1)
both? (no n) d = no (λ p. n p.0)

pub either? : {A B : Type 0} → Dec A → Dec B → Dec (A ⊎ B)
either? (yes a) d = yes (inl a)
either? (no n) (yes b) = yes (inr b)
either? (no n) (no m) = no (elim [ inl a ↦ n a | inr b ↦ m b ])

pub true? : (t : Bool) → Dec (t ≡ true)
true? true = yes refl
true? false = no (λ e. both_ways false refl e)

-- the first number, below n, with a property
pub record First (P : ℕ → Type 0) (n : ℕ) : Type 0 where
  pub at : ℕ
  pub under : at < n
  pub has : P at
  pub before : (k : ℕ) → k < at → ¬ P k

pub first : (P : ℕ → Type 0) → ((k : ℕ) → Dec (P k)) → (n : ℕ) → First P n ⊎ ((k : ℕ) → k < n → ¬ P k)
first P tell zero = inr (λ k h p. omega arith)
first P tell (suc n) = go (first P tell n) (tell n)
  where
    go : First P n ⊎ ((k : ℕ) → k < n → ¬ P k) → Dec (P n) → First P (suc n) ⊎ ((k : ℕ) → k < suc n → ¬ P k)
    go (inl f) d = inl (record { at = f.at; under = omega arith; has = f.has; before = f.before })
    go (inr f) (yes p) = inl (record { at = n; under = omega arith; has = p; before = f })
    go (inr f) (no m) = inr (λ k h p. elim (ℕ_discrete k n) [ yes e ↦ m (rw e at p) | no d ↦ f k (omega arith) p ])

pub first? : (P : ℕ → Type 0) → ((k : ℕ) → Dec (P k)) → (n : ℕ) → Dec (First P n)
first? P tell n = elim (first P tell n) [ inl f ↦ yes f | inr f ↦ no (λ s. f s.at s.under s.has) ]

pub first_of : (P : ℕ → Type 0) → ((k : ℕ) → Dec (P k)) → (n k : ℕ) → k < n → P k → First P n
first_of P tell n k h p = elim (first P tell n) [ inl f ↦ f | inr f ↦ absurd (f k h p) ]

pub first_least : {P : ℕ → Type 0} {n : ℕ} (f : First P n) (k : ℕ) → P k → f.at ≤ k
first_least f k p = elim (dec_lt k f.at) [ yes l ↦ absurd (f.before k l p) | no m ↦ omega arith ]

-- the link k has the ends a and b
abbrev Ends : Network → ℕ → ℕ → ℕ → Type 0
Ends g k a b = (((row g k).from ≡ a) × ((row g k).to ≡ b)) ⊎ (((row g k).from ≡ b) × ((row g k).to ≡ a))

pub hop? : (g : Network) (k a b : ℕ) → Dec (Hop g k a b)
hop? g k a b = go (dec_lt k (length g.rows)) (true? (get_or g.service k false)) ends?
  where
    ends? : Dec (Ends g k a b)
    ends? = either? (both? (ℕ_discrete (row g k).from a) (ℕ_discrete (row g k).to b)) (both? (ℕ_discrete (row g k).from b) (ℕ_discrete (row g k).to a))

    go : Dec (k < length g.rows) → Dec (get_or g.service k false ≡ true) → Dec (Ends g k a b) → Dec (Hop g k a b)
    go (yes l) (yes u) (yes e) = yes (record { listed = l; up = u; ends = e })
    go (yes l) (yes u) (no n) = no (λ h. n h.ends)
    go (yes l) (no n) e = no (λ h. n h.up)
    go (no n) u e = no (λ h. n h.listed)

-- the first link of a route from a to b with the sum d is k, and leads to u
pub record Onward (g : Network) (a b d k u : ℕ) : Type 0 where
  pub hop : Hop g k a u
  pub fits : delay g k ≤ d
  pub rest : Attained g u b (d - delay g k)

-- some such route begins with k
abbrev Leads : Network → ℕ → ℕ → ℕ → ℕ → Type 0
Leads g a b d k = First (Onward g a b d k) g.stations

module _ {g : Network} (proper : Proper g) where
  onward? : (a b d k u : ℕ) → ((e : ℕ) → e < d → Dec (Attained g u b e)) → Dec (Onward g a b d k u)
  onward? a b d k u later = go (hop? g k a u) (dec_le (delay g k) d)
    where
      rest : Hop g k a u → delay g k ≤ d → Dec (Attained g u b (d - delay g k)) → Dec (Onward g a b d k u)
      rest h l (yes r) = yes (record { hop = h; fits = l; rest = r })
      rest h l (no n) = no (λ o. n o.rest)

      go : Dec (Hop g k a u) → Dec (delay g k ≤ d) → Dec (Onward g a b d k u)
      go (yes h) (yes l) = rest h l (later (d - delay g k) (omega (arith, hop_delay proper h)))
      go (yes h) (no n) = no (λ o. n o.fits)
      go (no n) l = no (λ o. n o.hop)

  step? : (a b d : ℕ) → ((u e : ℕ) → e < d → Dec (Attained g u b e)) → Dec (Attained g a b d)
  step? a b d later = go (both? (ℕ_discrete a b) (ℕ_discrete d 0)) (first? (Leads g a b d) leads? (length g.rows))
    where
      leads? : (k : ℕ) → Dec (Leads g a b d k)
      leads? k = first? (Onward g a b d k) (λ u. onward? a b d k u (later u)) g.stations

      ahead : First (Leads g a b d) (length g.rows) → Attained g a b d
      ahead f =
          let o = f.has.has in
          record { links = f.at ∷ o.rest.links; route = step o.hop o.rest.route; total = omega (arith, o.rest.total, o.fits) }

      none_left : ¬ ((a ≡ b) × (d ≡ 0)) → ¬ First (Leads g a b d) (length g.rows) → {x : ℕ} {ks : List ℕ} → Route g x ks b → x ≡ a → sum g ks ≡ d → ⊥
      none_left n m here e s = n (sym e, sym s)
      none_left n m (step {b = u} {k = k} {ks = ks} h p) e s =
          let o : Onward g a b d k u = record { hop = rw e at h; fits = omega arith; rest = record { links = ks; route = p; total = omega arith } } in
          let f = first_of (Onward g a b d k) (λ v. onward? a b d k v (later v)) g.stations u (hop_stations proper h).1 o in
          m (first_of (Leads g a b d) leads? (length g.rows) k h.listed f)

      go : Dec ((a ≡ b) × (d ≡ 0)) → Dec (First (Leads g a b d) (length g.rows)) → Dec (Attained g a b d)
      go (yes e) f = yes (rw (e.0, e.1) (record { links = []; route = here; total = refl }))
      go (no n) (yes f) = yes (ahead f)
      go (no n) (no m) = no (λ r. none_left n m r.route refl r.total)

  attained_within_or_not : (most d a b : ℕ) → d ≤ most → Dec (Attained g a b d)
  attained_within_or_not zero d a b h = step? a b d (λ u e l. absurd (omega arith))
  attained_within_or_not (suc most) d a b h = step? a b d (λ u e l. attained_within_or_not most e u b (omega arith))

  pub attained? : (a b d : ℕ) → Dec (Attained g a b d)
  attained? a b d = attained_within_or_not d d a b (omega arith)

  -- the first delay that is attained is the least
  pub least_first : {a b n : ℕ} (f : First (Attained g a b) n) → Least g a b f.at
  least_first f = record { attained = f.has; least = λ ks p. first_least f (sum g ks) (record { links = ks; route = p; total = refl }) }

  pub least_of : {a b d : ℕ} → Attained g a b d → (x : ℕ) × Least g a b x
  least_of {a} {b} {d} r = let f = first_of (Attained g a b) (attained? a b) (suc d) d (omega arith) r in (f.at, least_first f)

  -- no route, or a least delay: every route can be cut to one that takes no longer than all links together
  pub told : (a b : ℕ) → NoRoute g a b ⊎ ((x : ℕ) × Least g a b x)
  told a b = go (first (Attained g a b) (attained? a b) (suc (sum g all)))
    where
      all : List ℕ
      all = below (length g.rows)

      short : {ks : List ℕ} (p : Route g a ks b) → sum g (tour_of p).links ≤ sum g all
      short p =
          let t = tour_of p in
          let listed = each_among (each_hop {such = λ k. k < length g.rows} (λ k c d h. h.listed) (tour_route t.tour)) in
          (once g t.links all (tour_once t.tour) (λ k m. among_below k (length g.rows) (listed k m))).0

      none : ((d : ℕ) → d < suc (sum g all) → ¬ Attained g a b d) → NoRoute g a b
      none f ks p =
          let t = tour_of p in
          f (sum g t.links) (omega (arith, short p)) (record { links = t.links; route = tour_route t.tour; total = refl })

      go : First (Attained g a b) (suc (sum g all)) ⊎ ((d : ℕ) → d < suc (sum g all) → ¬ Attained g a b d) → NoRoute g a b ⊎ ((x : ℕ) × Least g a b x)
      go (inl f) = inr (f.at, least_first f)
      go (inr f) = inl (none f)
