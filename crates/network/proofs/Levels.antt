-- Stations that such links join; "under 2 ^ i" is the case in which such links are the small ones.
use Rattle.std.proofs.Common.{ℕ, ◌-◌, ◌^◌, ◌<◌, ◌≤◌, ◌⊎◌, List, [], ◌∷◌, ◌++◌, reverse, inl, inr, arith, pow_mono}
use mathlib.Core.List.{reverse_aux}
use native.Mathlib.Decide.{dec_lt}
use Rattle.network.specs.Levels.{IsLevel}
use Rattle.network.specs.Network.{Network, Hop, Route, here, step, Each, none, and, Joined, Small, Under, delay, sum}
use Rattle.network.proofs.Routes.{join, turn, link}

pub each_join : {such : ℕ → Type 0} {ks ls : List ℕ} → Each such ks → Each such ls → Each such (ks ++ ls)
each_join none q = q
each_join (and s p) q = and s (each_join p q)

pub each_turn : {such : ℕ → Type 0} {ks ls : List ℕ} → Each such ks → Each such ls → Each such (reverse_aux ks ls)
each_turn none q = q
each_turn (and s p) q = each_turn p (and s q)

pub each_map : {such other : ℕ → Type 0} {ks : List ℕ} → ((k : ℕ) → such k → other k) → Each such ks → Each other ks
each_map f none = none
each_map f (and {k = k} s p) = and (f k s) (each_map f p)

pub joined_self : {g : Network} {such : ℕ → Type 0} (a : ℕ) → Joined g such a a
joined_self a = record { links = []; route = here; each = none }

pub joined_link : {g : Network} {such : ℕ → Type 0} {k a b : ℕ} → Hop g k a b → such k → Joined g such a b
joined_link {k = k} h s = record { links = k ∷ []; route = link h; each = and s none }

pub joined_symmetric : {g : Network} {such : ℕ → Type 0} {a b : ℕ} → Joined g such a b → Joined g such b a
joined_symmetric h = record { links = reverse h.links; route = turn h.route; each = each_turn h.each none }

pub joined_transitive : {g : Network} {such : ℕ → Type 0} {a b c : ℕ} → Joined g such a b → Joined g such b c → Joined g such a c
joined_transitive h k = record { links = h.links ++ k.links; route = join h.route k.route; each = each_join h.each k.each }

pub joined_map : {g : Network} {such other : ℕ → Type 0} {a b : ℕ} → ((k : ℕ) → such k → other k) → Joined g such a b → Joined g other a b
joined_map f h = record { links = h.links; route = h.route; each = each_map f h.each }

-- where other links join the ends of each such link, they join what such links join
pub joined_through :
    {g : Network} {such other : ℕ → Type 0} {a b : ℕ} → ((k c d : ℕ) → Hop g k c d → such k → Joined g other c d) → Joined g such a b → Joined g other a b
joined_through {g} {such} {other} f h = go h.route h.each
  where
    go : {a b : ℕ} {ks : List ℕ} → Route g a ks b → Each such ks → Joined g other a b
    go here e = joined_self _
    go (step h p) (and s e) = joined_transitive (f _ _ _ h s) (go p e)

pub small_grows : {g : Network} {i j : ℕ} → i ≤ j → (k : ℕ) → Small g i k → Small g j k
small_grows l k s = record { under = omega (arith, pow_mono l, s.under) }

pub under_grows : {g : Network} {i j a b : ℕ} → i ≤ j → Under g i a b → Under g j a b
under_grows l h = joined_map (small_grows l) h

-- a link is under 2 ^ i exactly if its level is i or less
pub level_of_small : {g : Network} {i k l : ℕ} → IsLevel (delay g k) l → Small g i k → l ≤ i
level_of_small {i = i} {l = l} v s = go (dec_lt i l)
  where
    go : Dec (i < l) → l ≤ i
    go (yes h) = let m : i ≤ l - 1 = omega arith in absurd (omega (arith, pow_mono m, v.reaches, s.under))
    go (no h) = omega arith

pub small_of_level : {g : Network} {i k l : ℕ} → IsLevel (delay g k) l → l ≤ i → Small g i k
small_of_level v h = record { under = omega (arith, pow_mono h, v.under) }

-- every link of ks is under 2 ^ i, or together they take that long
pub small_or_long : (g : Network) (i : ℕ) (ks : List ℕ) → Each (Small g i) ks ⊎ (2 ^ i ≤ sum g ks)
small_or_long g i [] = inl none
small_or_long g i (k ∷ ks) = go (dec_lt (delay g k) (2 ^ i)) (small_or_long g i ks)
  where
    go : Dec (delay g k < 2 ^ i) → Each (Small g i) ks ⊎ (2 ^ i ≤ sum g ks) → Each (Small g i) (k ∷ ks) ⊎ (2 ^ i ≤ sum g (k ∷ ks))
    go (yes p) (inl q) = inl (and (record { under = p }) q)
    go (yes p) (inr q) = inr (omega arith)
    go (no p) q = inr (omega arith)

pub apart : {g : Network} {i a b : ℕ} → ¬ Under g i a b → {ks : List ℕ} → Route g a ks b → 2 ^ i ≤ sum g ks
apart {g} {i} n {ks} p =
    elim (small_or_long g i ks) [ inl s ↦ absurd (n (record { links = ks; route = p; each = s })) | inr l ↦ l ]
