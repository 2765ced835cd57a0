-- Routes joined and turned round, with their sums, and what is true of each link of a route.
use Rattle.std.proofs.Common.{◌≡◌, ℕ, ◌+◌, ◌*◌, ◌<◌, ◌≤◌, ◌⊎◌, List, [], ◌∷◌, ◌++◌, reverse, length, refl, ap, inl, inr, suc-mul, arith}
use mathlib.Core.List.{reverse_aux}
use Rattle.network.specs.Network.{Network, Proper, Hop, Route, here, step, Each, none, and, delay, sum}

pub join : {g : Network} {a b c : ℕ} {ks ls : List ℕ} → Route g a ks b → Route g b ls c → Route g a (ks ++ ls) c
join here q = q
join (step h p) q = step h (join p q)

pub join_sum : (g : Network) (ks ls : List ℕ) → sum g (ks ++ ls) ≡ sum g ks + sum g ls
join_sum g [] ls = omega arith
join_sum g (k ∷ ks) ls = omega (arith, join_sum g ks ls)

-- a link works either way
pub flip : {g : Network} {k a b : ℕ} → Hop g k a b → Hop g k b a
flip h = record { listed = h.listed; up = h.up; ends = elim h.ends [ inl e ↦ inr e | inr e ↦ inl e ] }

-- the links of the first, last one first, and then those of the second
pub turn_onto : {g : Network} {a b c : ℕ} {ks ls : List ℕ} → Route g a ks b → Route g a ls c → Route g b (reverse_aux ks ls) c
turn_onto here q = q
turn_onto (step h p) q = turn_onto p (step (flip h) q)

pub turn_onto_sum : (g : Network) (ks ls : List ℕ) → sum g (reverse_aux ks ls) ≡ sum g ks + sum g ls
turn_onto_sum g [] ls = omega arith
turn_onto_sum g (k ∷ ks) ls = omega (arith, turn_onto_sum g ks (k ∷ ls))

pub turn : {g : Network} {a b : ℕ} {ks : List ℕ} → Route g a ks b → Route g b (reverse ks) a
turn p = turn_onto p here

pub turn_sum : (g : Network) (ks : List ℕ) → sum g (reverse ks) ≡ sum g ks
turn_sum g ks = omega (arith, turn_onto_sum g ks [])

-- one hop is a route
pub link : {g : Network} {k a b : ℕ} → Hop g k a b → Route g a (k ∷ []) b
link h = step h here

-- the last link of a route
pub record LastHop (g : Network) (a b : ℕ) (ks : List ℕ) : Type 0 where
  pub before : List ℕ
  pub link : ℕ
  pub from : ℕ
  pub to : Route g a before from
  pub hop : Hop g link from b
  pub list : ks ≡ before ++ (link ∷ [])

pub last_hop : {g : Network} {a b : ℕ} {ks : List ℕ} → Route g a ks b → ((a ≡ b) × (ks ≡ [])) ⊎ LastHop g a b ks
last_hop here = inl (refl, refl)
last_hop {g} {b = c} (step {a = a} {b = b} {k = k} {ks = ks} h p) = inr (go (last_hop p))
  where
    go : ((b ≡ c) × (ks ≡ [])) ⊎ LastHop g b c ks → LastHop g a c (k ∷ ks)
    go (inl e) = record { before = []; link = k; from = a; to = here; hop = rw e.0 at h; list = ap (λ ls. k ∷ ls) e.1 }
    go (inr l) =
        record { before = k ∷ l.before; link = l.link; from = l.from; to = step h l.to; hop = l.hop; list = ap (λ ls. k ∷ ls) l.list }

-- what every hop has, every link of a route has
pub each_hop : {g : Network} {a b : ℕ} {ks : List ℕ} {such : ℕ → Type 0} → ((k c d : ℕ) → Hop g k c d → such k) → Route g a ks b → Each such ks
each_hop f here = none
each_hop f (step h p) = and (f _ _ _ h) (each_hop f p)

-- a link has two ends
pub same_ends : {g : Network} {k a b c d : ℕ} → Hop g k a b → Hop g k c d → ((c ≡ a) × (d ≡ b)) ⊎ ((c ≡ b) × (d ≡ a))
same_ends h i = go h.ends i.ends
  where
    go :
        {x y a b c d : ℕ} → ((x ≡ a) × (y ≡ b)) ⊎ ((x ≡ b) × (y ≡ a)) → ((x ≡ c) × (y ≡ d)) ⊎ ((x ≡ d) × (y ≡ c)) → ((c ≡ a) × (d ≡ b)) ⊎ ((c ≡ b) × (d ≡ a))
    go (inl p) (inl q) = inl (cc, cc)
    go (inl p) (inr q) = inr (cc, cc)
    go (inr p) (inl q) = inr (cc, cc)
    go (inr p) (inr q) = inl (cc, cc)

-- so a link leads to one place from one of its ends
pub same_start : {g : Network} {k a b c : ℕ} → Hop g k a c → Hop g k b c → a ≡ b
same_start h i = elim (same_ends h i) [ inl e ↦ cc | inr e ↦ cc ]

module _ {g : Network} (proper : Proper g) where
  pub hop_stations : {k a b : ℕ} → Hop g k a b → (a < g.stations) × (b < g.stations)
  hop_stations h =
      let s = (proper _ h.listed).0 in
      elim h.ends [ inl e ↦ (omega arith, omega arith) | inr e ↦ (omega arith, omega arith) ]

  pub hop_delay : {k a b : ℕ} → Hop g k a b → 1 ≤ delay g k
  hop_delay h = (proper _ h.listed).2

  pub route_station : {a b : ℕ} {ks : List ℕ} → a < g.stations → Route g a ks b → b < g.stations
  route_station l here = l
  route_station l (step h p) = route_station (hop_stations h).1 p

-- no link longer than most, no route of so many links longer than so many times most
pub sum_bound :
    {g : Network} {a b : ℕ} {ks : List ℕ} (most : ℕ) → ((k : ℕ) → k < length g.rows → delay g k ≤ most) → Route g a ks b → sum g ks ≤ length ks * most
sum_bound most f here = omega arith
sum_bound most f (step {k = k} {ks = ks} h p) = omega (arith, f k h.listed, sum_bound most f p, suc-mul (length ks) most)

-- a link leads from a station to one other
pub other_end : {g : Network} {k a b c : ℕ} → Hop g k a b → Hop g k a c → b ≡ c
other_end j l = same_start (flip j) (flip l)

-- and from no third
pub either_end : {g : Network} {k a b c d : ℕ} → Hop g k a b → Hop g k c d → (c ≡ a) ⊎ (c ≡ b)
either_end j l = elim (same_ends j l) [ inl e ↦ inl e.0 | inr e ↦ inr e.0 ]
