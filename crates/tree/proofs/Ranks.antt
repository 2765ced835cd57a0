-- Links in the order of their ranks: those that come before one.
use Rattle.std.proofs.Common.{◌≡◌, ℕ, zero, suc, ◌-◌, ◌^◌, ◌<◌, ◌≤◌, ◌⊎◌, refl, inl, inr, arith}
use native.Mathlib.Decide.{dec_lt, dec_le}
use Rattle.network.specs.Levels.{IsLevel}
use Rattle.network.specs.Network.{Network, Proper, Hop, Small, Under, row, delay}
use Rattle.network.proofs.Levels.{joined_link, joined_through, level_of_small, small_of_level}
use Rattle.network.proofs.Groups.{below_pow}
use Rattle.network.proofs.Search.{First, first_of}
use Rattle.tree.specs.Joining.{Earlier, Before, Joining}

-- every delay has a level
pub level_of : (ns : ℕ) → 1 ≤ ns → (i : ℕ) × IsLevel ns i
level_of ns h = go (first_of (λ i. ns < 2 ^ i) (λ i. dec_lt ns (2 ^ i)) (suc ns) ns (omega arith) (below_pow ns))
  where
    reach : (i : ℕ) → 1 ≤ i → ((k : ℕ) → k < i → ¬ (ns < 2 ^ k)) → 2 ^ (i - 1) ≤ ns
    reach i l f = elim (dec_lt ns (2 ^ (i - 1))) [ yes s ↦ absurd (f (i - 1) (omega arith) s) | no s ↦ omega arith ]

    least : (i : ℕ) → ns < 2 ^ i → 1 ≤ i
    least zero l = absurd (let one : 2 ^ 0 ≡ 1 = refl in omega arith)
    least (suc i) l = omega arith

    go : First (λ i. ns < 2 ^ i) (suc ns) → (i : ℕ) × IsLevel ns i
    go f = (f.at, record { least = least f.at f.has; reaches = reach f.at (least f.at f.has) f.before; under = f.has })

-- a joining link leads from one of its ends to the other
pub hop_of : {g : Network} {k : ℕ} → Joining g k → Hop g k (row g k).from (row g k).to
hop_of j = record { listed = j.listed; up = j.up; ends = inl (refl, refl) }

-- all links under 2 ^ i have been looked at, and of those of level i + 1 the first k
abbrev pub Past : Network → ℕ → ℕ → ℕ → Type 0
Past g i k j = Small g i j ⊎ (Small g (suc i) j × (j < k))

-- a link of level i + 1 comes after just those
pub before_past : {g : Network} {i k : ℕ} → IsLevel (delay g k) (suc i) → (j : ℕ) → Before g j k → Past g i k j
before_past {g} {i} {k} l j b = go b.order
  where
    top : b.other ≤ suc i
    top = level_of_small {g = g} {k = k} b.second (record { under = l.under })

    go : Earlier b.level j b.other k → Past g i k j
    go (inl h) = inl (small_of_level {g = g} b.first (omega (arith, top)))
    go (inr h) = inr (small_of_level {g = g} b.first (omega (arith, top, h.0)), h.1)

pub past_before : {g : Network} {i k : ℕ} → Proper g → IsLevel (delay g k) (suc i) → (j : ℕ) → Joining g j → Past g i k j → Before g j k
past_before {g} {i} {k} proper l j joining p = go (level_of (delay g j) (proper j joining.listed).2) p
  where
    go : (m : ℕ) × IsLevel (delay g j) m → Past g i k j → Before g j k
    go v (inl s) = record { level = v.0; other = suc i; first = v.1; second = l; order = inl (omega (arith, level_of_small {g = g} v.1 s)) }
    go v (inr s) =
        let m : v.0 ≤ suc i = level_of_small {g = g} v.1 s.0 in
        elim (dec_lt v.0 (suc i)) [
          | yes h ↦ record { level = v.0; other = suc i; first = v.1; second = l; order = inl h }
          | no h ↦ record { level = v.0; other = suc i; first = v.1; second = l; order = inr (omega arith, s.1) }
        ]

-- a joining link is under 2 ^ i where links under 2 ^ i join its ends: else they would all be ranked before it
pub joining_small : {g : Network} → Proper g → (i k : ℕ) → Joining g k → Under g i (row g k).from (row g k).to → Small g i k
joining_small {g} proper i k l u = go (dec_lt (delay g k) (2 ^ i))
  where
    own : (n : ℕ) × IsLevel (delay g k) n
    own = level_of (delay g k) (proper k l.listed).2

    before : ¬ (delay g k < 2 ^ i) → (j a b : ℕ) → Hop g j a b → Small g i j → Before g j k
    before n j a b h s =
        let v = level_of (delay g j) (proper j h.listed).2 in
        let p : v.0 ≤ i = level_of_small {g = g} v.1 s in
        let q : i < own.0 = elim (dec_le own.0 i) [ yes m ↦ absurd (n (small_of_level {g = g} {k = k} own.1 m).under) | no m ↦ omega arith ] in
        record { level = v.0; other = own.0; first = v.1; second = own.1; order = inl (omega arith) }

    go : Dec (delay g k < 2 ^ i) → Small g i k
    go (yes h) = record { under = h }
    go (no n) = absurd (l.alone (joined_through (λ j a b h s. joined_link h (before n j a b h s)) u))
