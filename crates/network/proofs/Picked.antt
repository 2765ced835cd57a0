-- The picked route: there is exactly one, and where the delays are least it is a least route.
use Rattle.std.proofs.Common.{◌≡◌, ℕ, zero, suc, ◌+◌, ◌<◌, ◌≤◌, ◌≢◌, ◌⊎◌, List, [], ◌∷◌, ◌++◌, length, Some, None, Option, sym, refl, ap, ◌∙◌, inl, inr, arith}
use native.Mathlib.Decide.{ℕ_discrete}
use Rattle.std.proofs.lemmas.List.{length_push, same_from_push}
use Rattle.network.specs.Network.{Network, Proper, Hop, Route, here, Attained, delay, sum}
use Rattle.network.specs.Picked.{Settled, Tight, Lowest, Picked, source, onward}
use Rattle.network.proofs.Routes.{join, join_sum, link, LastHop, last_hop, same_start, hop_stations, hop_delay}
use Rattle.network.proofs.Leasts.{least_le, least_one, least_self, attained_link}
use Rattle.network.proofs.Cuts.{least_few}
use Rattle.network.proofs.Search.{First, first?, first_of, first_least, hop?}
use Rattle.network.proofs.Settled.{some_none, settled_known}

-- no list with a last element is empty
no_last : (ks : List ℕ) (k : ℕ) → ks ++ (k ∷ []) ≡ [] → ⊥
no_last ks k e = omega (arith, ap length e, length_push ks k)

-- one picked route at most, whatever the delays
pub picked_source : {g : Network} {delays : ℕ → Option ℕ} {s t : ℕ} {ks : List ℕ} → Picked g delays s ks t → t ≡ s → ks ≡ []
picked_source source e = refl
picked_source (onward n l p) e = absurd (n e)

pub lowest_one : {g : Network} {delays : ℕ → Option ℕ} {j k u v t : ℕ} → Lowest g delays k u t → Lowest g delays j v t → (j ≡ k) × (v ≡ u)
lowest_one {j = j} {k} {u} {v} l m =
    let e : j ≡ k = omega (arith, l.lowest j v m.tight, m.lowest k u l.tight) in
    (e, same_start (rw e at m.tight.hop) l.tight.hop)

pub picked_one : {g : Network} {delays : ℕ → Option ℕ} {s t : ℕ} {ks ls : List ℕ} → Picked g delays s ks t → Picked g delays s ls t → ks ≡ ls
picked_one source q = sym (picked_source q refl)
picked_one {g} {delays} {s} (onward {k = k} {u = u} {ks = ks} n l p) q = go n l (λ ls r. picked_one {ls = ls} p r) q
  where
    go : {t : ℕ} {ls : List ℕ} → t ≢ s → Lowest g delays k u t → ((ls : List ℕ) → Picked g delays s ls u → ks ≡ ls) → Picked g delays s ls t → ks ++ (k ∷ []) ≡ ls
    go n l later source = absurd (n refl)
    go n l later (onward {ks = ls} m i q) =
        let e = lowest_one l i in
        rw (e.0, later ls (rw e.1 at q))

pub picked_route : {g : Network} {delays : ℕ → Option ℕ} {s t : ℕ} {ks : List ℕ} → Picked g delays s ks t → Route g s ks t
picked_route source = here
picked_route (onward n l p) = join (picked_route p) (link l.tight.hop)

-- its last link is the lowest into t
pub picked_last :
    {g : Network} {delays : ℕ → Option ℕ} {s t : ℕ} {ls : List ℕ} (ks : List ℕ) (k : ℕ) → Picked g delays s ls t → ls ≡ ks ++ (k ∷ [])
    → (u : ℕ) × Lowest g delays k u t
picked_last ks k source e = absurd (no_last ks k (sym e))
picked_last ks k (onward {k = j} {u = u} {ks = ls} n l p) e = (u, rw (same_from_push ls ks j k e).1 at l)

module _ {g : Network} {s : ℕ} {delays : ℕ → Option ℕ} (settled : Settled g s delays) where
  -- its sum is the delay of t
  pub picked_sum : {t : ℕ} {ks : List ℕ} (d : ℕ) → delays t ≡ Some d → Picked g delays s ks t → sum g ks ≡ d
  picked_sum d e source = least_one (least_self g s) (settled.least s d e)
  picked_sum d e (onward {k = k} {ks = ks} n l p) =
      let z : l.tight.at + delay g k ≡ d = cc l.tight.after in
      omega (arith, z, join_sum g ks (k ∷ []), picked_sum l.tight.at l.tight.before p)

  -- the last link of a least route is tight
  tight_last : {t d : ℕ} {ks : List ℕ} → delays t ≡ Some d → sum g ks ≡ d → (l : LastHop g s t ks) → Tight g delays l.link l.from t
  tight_last {t} {d} e f l =
      let y = settled_known settled l.to in
      let m = settled.least l.from y.0 y.1 in
      let over = least_le (settled.least t d e) (attained_link m.attained l.hop) in
      let before = m.least l.before l.to in
      let z : y.0 + delay g l.link ≡ d = omega (arith, over, before, ap (sum g) l.list, join_sum g l.before (l.link ∷ [])) in
      record { hop = l.hop; at = y.0; before = y.1; after = e ∙ ap Some (sym z) }

  tight_into : (t d : ℕ) → t ≢ s → delays t ≡ Some d → (k u : ℕ) × Tight g delays k u t
  tight_into t d n e = go (last_hop r.route)
    where
      r : Attained g s t d
      r = (settled.least t d e).attained

      go : ((s ≡ t) × (r.links ≡ [])) ⊎ LastHop g s t r.links → (k u : ℕ) × Tight g delays k u t
      go (inl z) = absurd (n (sym z.0))
      go (inr l) = (l.link, l.from, tight_last e r.total l)

  -- so no least route to t ends in a link with a lower number than the picked one
  pub picked_lowest :
      {t : ℕ} (d k j : ℕ) (ks ls : List ℕ) → delays t ≡ Some d → Picked g delays s (ks ++ (k ∷ [])) t
      → Route g s (ls ++ (j ∷ [])) t → sum g (ls ++ (j ∷ [])) ≡ d → k ≤ j
  picked_lowest {t} d k j ks ls e p q f = go (picked_last ks k p refl) (last_hop q)
    where
      go : (u : ℕ) × Lowest g delays k u t → ((s ≡ t) × (ls ++ (j ∷ []) ≡ [])) ⊎ LastHop g s t (ls ++ (j ∷ [])) → k ≤ j
      go l (inl z) = absurd (no_last ls j z.1)
      go l (inr i) = omega (arith, l.1.lowest i.link i.from (tight_last e f i), (same_from_push ls i.before j i.link i.list).1)

  module _ (proper : Proper g) where
    tight? : (t k u : ℕ) → Dec (Tight g delays k u t)
    tight? t k u = go (hop? g k u t) (delays u) refl (delays t) refl
      where
        sum? : Hop g k u t → (x y : ℕ) → delays u ≡ Some x → delays t ≡ Some y → Dec (y ≡ x + delay g k) → Dec (Tight g delays k u t)
        sum? h x y e f (yes z) = yes (record { hop = h; at = x; before = e; after = f ∙ ap Some z })
        sum? h x y e f (no n) = no (λ i. n (let p : x ≡ i.at = cc i.before in let q : y ≡ i.at + delay g k = cc i.after in omega arith))

        go : Dec (Hop g k u t) → (o : Option ℕ) → delays u ≡ o → (q : Option ℕ) → delays t ≡ q → Dec (Tight g delays k u t)
        go (no n) o e q f = no (λ i. n i.hop)
        go (yes h) None e q f = no (λ i. some_none i.before e)
        go (yes h) (Some x) e None f = no (λ i. some_none i.after f)
        go (yes h) (Some x) e (Some y) f = sum? h x y e f (ℕ_discrete y (x + delay g k))

    lowest_into : (t d : ℕ) → t ≢ s → delays t ≡ Some d → (k u : ℕ) × Lowest g delays k u t
    lowest_into t d n e =
        let (k, u, i) = tight_into t d n e in
        let f = first_of Leads leads? (length g.rows) k i.hop.listed (leads k u i) in
        (f.at, f.has.at, record { tight = f.has.has; lowest = λ j v o. first_least f j (leads j v o) })
      where
        Leads : ℕ → Type 0
        Leads k = First (λ u. Tight g delays k u t) g.stations

        leads? : (k : ℕ) → Dec (Leads k)
        leads? k = first? (λ u. Tight g delays k u t) (tight? t k) g.stations

        leads : (k u : ℕ) → Tight g delays k u t → Leads k
        leads k u o = first_of (λ u. Tight g delays k u t) (tight? t k) g.stations u (hop_stations proper o.hop).0 o

    picked_step :
        (t d : ℕ) → delays t ≡ Some d → ((u y : ℕ) → y < d → delays u ≡ Some y → (ks : List ℕ) × Picked g delays s ks u)
        → (ks : List ℕ) × Picked g delays s ks t
    picked_step t d e later = go (ℕ_discrete t s)
      where
        go : Dec (t ≡ s) → (ks : List ℕ) × Picked g delays s ks t
        go (yes z) = ([], rw z source)
        go (no n) =
            let (k, u, l) = lowest_into t d n e in
            let z : l.tight.at + delay g k ≡ d = cc l.tight.after in
            let p = later u l.tight.at (omega (arith, z, hop_delay proper l.tight.hop)) l.tight.before in
            (p.0 ++ (k ∷ []), onward n l p.1)

    -- the delays fall on the way back, so it ends
    picked_within : (most t d : ℕ) → d ≤ most → delays t ≡ Some d → (ks : List ℕ) × Picked g delays s ks t
    picked_within zero t d h e = picked_step t d e (λ u y l f. absurd (omega arith))
    picked_within (suc most) t d h e = picked_step t d e (λ u y l f. picked_within most u y (omega arith) f)

    pub picked_exists : (t d : ℕ) → delays t ≡ Some d → (ks : List ℕ) × Picked g delays s ks t
    picked_exists t d e = picked_within d t d (omega arith) e

    -- with fewer links than there are stations
    pub picked_few : {t : ℕ} {ks : List ℕ} (d : ℕ) → s < g.stations → delays t ≡ Some d → Picked g delays s ks t → length ks < g.stations
    picked_few {t} d l e p = least_few proper l (settled.least t d e) (picked_route p) (picked_sum d e p)
