-- Groups and joint levels.
use Rattle.std.proofs.Common.{◌≡◌, ℕ, zero, suc, ◌^◌, ◌<◌, ◌≤◌, Bool, true, false, ◌&&◌, ltb, ◌⊎◌, List, [], ◌∷◌, length, get_or, refl, inl, inr, arith, pow_pos}
use native.Mathlib.Decide.{dec_lt}
use native.Mathlib.Nat.{two-pow-succ}
use Rattle.std.proofs.lemmas.Bool.{both_ways, and_parts, and_from, ltb-true, lt-ltb, cases_lt}
use Rattle.network.specs.declared.row.Row.{Row}
use Rattle.network.specs.Network.{Network, Proper, Hop, Route, here, step, NoRoute, Least, Each, and, Small, Under, Group, Joint, no_row, delay, sum}
use Rattle.network.proofs.Routes.{each_hop, hop_delay}
use Rattle.network.proofs.Levels.{joined_self, joined_link, joined_symmetric, joined_transitive, under_grows, small_or_long}
use Rattle.network.proofs.Search.{told, first_of, first_least}

-- the stations that links under 2 ^ i join with a
pub group_around : (g : Network) (i a : ℕ) → a < g.stations → Group g i (λ b. (b < g.stations) × Under g i a b)
group_around g i a l =
    record {
      member = a;
      inhabited = (l, joined_self a);
      stations = λ b m. m.0;
      connected = λ b c m n. joined_transitive (joined_symmetric m.1) n.1;
      largest = λ b c m l u. (l, joined_transitive m.1 u);
    }

-- of two groups that share a station, that of the lower level lies in the other
pub group_nested :
    {g : Network} {i j a : ℕ} {inner outer : ℕ → Type 0} → i ≤ j → Group g i inner → Group g j outer → inner a → outer a → (b : ℕ) → inner b → outer b
group_nested {a = a} l p q m n b h = q.largest a b n (p.stations b h) (under_grows l (p.connected a b m h))

-- a link that leads out of a group takes 2 ^ i or more
pub group_cut : {g : Network} {i k a b : ℕ} {inside : ℕ → Type 0} → Group g i inside → Hop g k a b → b < g.stations → inside a → ¬ inside b → 2 ^ i ≤ delay g k
group_cut {g} {i} {k} {a} {b} p h l m n =
    elim (dec_lt (delay g k) (2 ^ i)) [ yes s ↦ absurd (n (p.largest a b m l (joined_link h (record { under = s })))) | no s ↦ omega arith ]

pub joint_one : {g : Network} {a b i j : ℕ} → Joint g a b i → Joint g a b j → i ≡ j
joint_one {i = i} {j = j} p q = omega (arith, p.smallest j q.joined, q.smallest i p.joined)

pub joint_symmetric : {g : Network} {a b i : ℕ} → Joint g a b i → Joint g b a i
joint_symmetric p = record { joined = joined_symmetric p.joined; smallest = λ j u. p.smallest j (joined_symmetric u) }

pub joint_self : (g : Network) (a : ℕ) → Joint g a a 0
joint_self g a = record { joined = joined_self a; smallest = λ j u. omega arith }

-- no link is under 1
pub under_zero : {g : Network} {a b : ℕ} → Proper g → Under g 0 a b → a ≡ b
under_zero {g} proper u = go u.route u.each
  where
    go : {a b : ℕ} {ks : List ℕ} → Route g a ks b → Each (Small g 0) ks → a ≡ b
    go here e = refl
    go (step h p) (and s e) = absurd (omega (arith, hop_delay proper h, s.under))

-- by way of a third station it is at most the higher of the two
pub joint_between : {g : Network} {a b c i j l : ℕ} → Joint g a b i → Joint g b c j → Joint g a c l → (l ≤ i) ⊎ (l ≤ j)
joint_between {i = i} {j = j} p q r =
    elim (cases_lt i j) [
      | inl h ↦ (let m : i ≤ j = omega arith in inr (r.smallest j (joined_transitive (under_grows m p.joined) q.joined)))
      | inr h ↦ inl (r.smallest i (joined_transitive p.joined (under_grows h q.joined)))
    ]

-- below the joint level no route keeps every link under 2 ^ i
pub joint_apart : {g : Network} {a b i : ℕ} → Joint g a b (suc i) → ¬ Under g i a b
joint_apart {i = i} p u = omega (arith, p.smallest i u)

-- where every link is under 2 ^ top, the joint level is top at most
pub joint_top : {g : Network} {a b i : ℕ} (top : ℕ) → ((k : ℕ) → k < length g.rows → delay g k < 2 ^ top) → Joint g a b i → i ≤ top
joint_top top f p =
    let r = p.joined.route in
    p.smallest top (record { links = p.joined.links; route = r; each = each_hop (λ k c d h. record { under = f k h.listed }) r })

-- which links stay in service where those of 2 ^ i or more are taken out
abbrev keep : ℕ → List Row → List Bool → List Bool
keep i [] ss = []
keep i (r ∷ rs) [] = []
keep i (r ∷ rs) (s ∷ ss) = (s && ltb r.ns (2 ^ i)) ∷ keep i rs ss

kept : (i : ℕ) (rs : List Row) (ss : List Bool) (k : ℕ) → get_or (keep i rs ss) k false ≡ true → (get_or ss k false ≡ true) × ((get_or rs k no_row).ns < 2 ^ i)
kept i [] ss k e = absurd (both_ways false refl e)
kept i (r ∷ rs) [] k e = absurd (both_ways false refl e)
kept i (r ∷ rs) (s ∷ ss) zero e = let p = and_parts s (ltb r.ns (2 ^ i)) e in (p.0, ltb-true r.ns (2 ^ i) p.1)
kept i (r ∷ rs) (s ∷ ss) (suc k) e = kept i rs ss k e

keeps : (i : ℕ) (rs : List Row) (ss : List Bool) (k : ℕ) → k < length rs → get_or ss k false ≡ true → (get_or rs k no_row).ns < 2 ^ i → get_or (keep i rs ss) k false ≡ true
keeps i [] ss k h e l = absurd (omega arith)
keeps i (r ∷ rs) [] k h e l = absurd (both_ways false refl e)
keeps i (r ∷ rs) (s ∷ ss) zero h e l = and_from s (ltb r.ns (2 ^ i)) e (lt-ltb r.ns (2 ^ i) l)
keeps i (r ∷ rs) (s ∷ ss) (suc k) h e l = keeps i rs ss k (omega arith) e l

-- the network with only its links under 2 ^ i in service: its routes are the routes with every link under 2 ^ i
abbrev narrow : Network → ℕ → Network
narrow g i = record { stations = g.stations; rows = g.rows; service = keep i g.rows g.service }

narrow_route : {g : Network} {i a b : ℕ} {ks : List ℕ} → Route g a ks b → Each (Small g i) ks → Route (narrow g i) a ks b
narrow_route here e = here
narrow_route {g} {i} (step {k = k} h p) (and s e) =
    let up = keeps i g.rows g.service k h.listed h.up s.under in
    step (record { listed = h.listed; up = up; ends = h.ends }) (narrow_route p e)

widen_route : (g : Network) (i : ℕ) {a b : ℕ} {ks : List ℕ} → Route (narrow g i) a ks b → Route g a ks b
widen_route g i here = here
widen_route g i (step {k = k} h p) =
    let up = (kept i g.rows g.service k h.up).0 in
    step (record { listed = h.listed; up = up; ends = h.ends }) (widen_route g i p)

narrow_small : (g : Network) (i : ℕ) {a b : ℕ} {ks : List ℕ} → Route (narrow g i) a ks b → Each (Small g i) ks
narrow_small g i p = each_hop (λ k c d h. record { under = (kept i g.rows g.service k h.up).1 }) p

-- so it can be told whether links under 2 ^ i join two stations
pub under? : {g : Network} → Proper g → (i a b : ℕ) → Dec (Under g i a b)
under? {g} proper i a b = go (told {g = narrow g i} proper a b)
  where
    go : NoRoute (narrow g i) a b ⊎ ((d : ℕ) × Least (narrow g i) a b d) → Dec (Under g i a b)
    go (inl n) = no (λ u. n u.links (narrow_route u.route u.each))
    go (inr l) =
        let r = l.1.attained in
        yes (record { links = r.links; route = widen_route g i r.route; each = narrow_small g i r.route })

pub below_pow : (n : ℕ) → n < 2 ^ n
below_pow zero = omega arith
below_pow (suc n) = omega (arith, below_pow n, two-pow-succ n, pow_pos n)

-- where there is a route there is a joint level
pub joint_of : {g : Network} {a b : ℕ} {ks : List ℕ} → Proper g → Route g a ks b → (i : ℕ) × Joint g a b i
joint_of {g} {a} {b} {ks} proper p =
    let f = first_of (λ i. Under g i a b) (λ i. under? proper i a b) (suc (sum g ks)) (sum g ks) (omega arith) high in
    (f.at, record { joined = f.has; smallest = first_least f })
  where
    high : Under g (sum g ks) a b
    high =
        elim (small_or_long g (sum g ks) ks) [
          | inl e ↦ record { links = ks; route = p; each = e }
          | inr l ↦ absurd (omega (arith, below_pow (sum g ks)))
        ]
