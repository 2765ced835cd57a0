-- The groups of the five stations at each level, and the inner nodes that they are.
use Rattle.std.proofs.Common.{◌≡◌, ℕ, zero, suc, ◌^◌, ◌<◌, ◌≤◌, true, false, ◌≢◌, ◌⊎◌, List, [], ◌∷◌, get_or, sym, refl, ap, ◌∙◌, subst, inl, inr, arith}
use native.Mathlib.Decide.{dec_le}
use Rattle.std.proofs.lemmas.Bool.{both_ways}
use Rattle.network.specs.Network.{Proper, Hop, Route, here, step, Each, and, Joined, Small, Under, row, delay}
use Rattle.network.proofs.Levels.{joined_self, joined_link, joined_symmetric, joined_transitive, under_grows}
use Rattle.tree.specs.Components.{Forms, Listed}
use Rattle.tree.specs.Five.{five, five_tree}
use Rattle.tree.specs.Joining.{Earlier}
use Rattle.tree.specs.Tree.{Inner}

-- what is true of each number below 5, of 5 to 7, and of each link
pub stations : (P : ℕ → Type 0) → P 0 → P 1 → P 2 → P 3 → P 4 → (x : ℕ) → x < 5 → P x
stations P a b c d e zero h = a
stations P a b c d e (suc zero) h = b
stations P a b c d e (suc (suc zero)) h = c
stations P a b c d e (suc (suc (suc zero))) h = d
stations P a b c d e (suc (suc (suc (suc zero)))) h = e
stations P a b c d e (suc (suc (suc (suc (suc x))))) h = absurd (omega arith)

pub inner : (P : ℕ → Type 0) → P 5 → P 6 → P 7 → (x : ℕ) → Inner five_tree x → P x
inner P a b c zero i = absurd (omega (arith, i.above))
inner P a b c (suc zero) i = absurd (omega (arith, i.above))
inner P a b c (suc (suc zero)) i = absurd (omega (arith, i.above))
inner P a b c (suc (suc (suc zero))) i = absurd (omega (arith, i.above))
inner P a b c (suc (suc (suc (suc zero)))) i = absurd (omega (arith, i.above))
inner P a b c (suc (suc (suc (suc (suc zero))))) i = a
inner P a b c (suc (suc (suc (suc (suc (suc zero)))))) i = b
inner P a b c (suc (suc (suc (suc (suc (suc (suc zero))))))) i = c
inner P a b c (suc (suc (suc (suc (suc (suc (suc (suc x)))))))) i = absurd (omega (arith, i.below))

pub links : (P : ℕ → Type 0) → P 0 → P 1 → P 2 → P 3 → P 4 → P 5 → (k : ℕ) → k < 6 → P k
links P a b c d e f zero h = a
links P a b c d e f (suc zero) h = b
links P a b c d e f (suc (suc zero)) h = c
links P a b c d e f (suc (suc (suc zero))) h = d
links P a b c d e f (suc (suc (suc (suc zero)))) h = e
links P a b c d e f (suc (suc (suc (suc (suc zero))))) h = f
links P a b c d e f (suc (suc (suc (suc (suc (suc k)))))) h = absurd (omega arith)

-- the lowest station of each group, at level 2, 3 and 5
abbrev pub two : ℕ → ℕ
two u = get_or (0 ∷ 0 ∷ 2 ∷ 3 ∷ 4 ∷ []) u u

abbrev pub three : ℕ → ℕ
three u = get_or (0 ∷ 0 ∷ 0 ∷ 3 ∷ 4 ∷ []) u u

abbrev pub all : ℕ → ℕ
all u = get_or (0 ∷ 0 ∷ 0 ∷ 0 ∷ 4 ∷ []) u u

pub clash : {A : Type 0} → false ≡ true → A
clash e = absurd (both_ways false refl e)

-- a label that no such link changes is the same along a route of such links
pub along : {such : ℕ → Type 0} (label : ℕ → ℕ) → ((k : ℕ) → k < 6 → get_or five.service k false ≡ true → such k → label (row five k).from ≡ label (row five k).to) → {u v : ℕ} → Joined five such u v → label u ≡ label v
along {such} label f h = go h.route h.each
  where
    hop : {k a b : ℕ} → Hop five k a b → such k → label a ≡ label b
    hop {k} h s =
        let e = f k h.listed h.up s in
        elim h.ends [ inl p ↦ sym (ap label p.0) ∙ e ∙ ap label p.1 | inr p ↦ sym (ap label p.1) ∙ sym e ∙ ap label p.0 ]

    go : {u v : ℕ} {ks : List ℕ} → Route five u ks v → Each such ks → label u ≡ label v
    go here e = refl
    go (step h p) (and s e) = hop h s ∙ go p e

pub p1 : 2 ^ 1 ≡ 2
p1 = refl

pub p2 : 2 ^ 2 ≡ 4
p2 = refl

pub p3 : 2 ^ 3 ≡ 8
p3 = refl

pub p4 : 2 ^ 4 ≡ 16
p4 = refl

pub p5 : 2 ^ 5 ≡ 32
p5 = refl

pub under_one : {u v : ℕ} → Under five 1 u v → u ≡ v
under_one h =
    along (λ u. u) (λ k l up s. links (λ k. Small five 1 k → (row five k).from ≡ (row five k).to) (λ s. absurd (omega (arith, s.under, p1))) (λ s. absurd (omega (arith, s.under, p1))) (λ s. absurd (omega (arith, s.under, p1)))
    (λ s. absurd (omega (arith, s.under, p1))) (λ s. absurd (omega (arith, s.under, p1))) (λ s. absurd (omega (arith, s.under, p1))) k l s) h

pub under_zero : {u v : ℕ} → Under five 0 u v → u ≡ v
under_zero h = let l : 0 ≤ 1 = omega arith in under_one (under_grows l h)

pub under_two : {u v : ℕ} → Under five 2 u v → two u ≡ two v
under_two h =
    along two (λ k l up s. links (λ k. Small five 2 k → two (row five k).from ≡ two (row five k).to) (λ s. refl) (λ s. absurd (omega (arith, s.under, p2))) (λ s. absurd (omega (arith, s.under, p2)))
    (λ s. absurd (omega (arith, s.under, p2))) (λ s. absurd (omega (arith, s.under, p2))) (λ s. absurd (omega (arith, s.under, p2))) k l s) h

pub under_four : {u v : ℕ} → Under five 4 u v → three u ≡ three v
under_four h =
    along three (λ k l up s. links (λ k. get_or five.service k false ≡ true → Small five 4 k → three (row five k).from ≡ three (row five k).to) (λ e s. refl) (λ e s. refl) (λ e s. refl)
    (λ e s. absurd (omega (arith, s.under, p4))) (λ e s. absurd (omega (arith, s.under, p4))) (λ e s. clash e) k l up s) h

pub under_any : {i u v : ℕ} → Under five i u v → all u ≡ all v
under_any {i} h =
    along all (λ k l up s. links (λ k. get_or five.service k false ≡ true → all (row five k).from ≡ all (row five k).to) (λ e. refl) (λ e. refl) (λ e. refl) (λ e. refl) (λ e. refl) (λ e. clash e) k l up) h

pub hop0 : Hop five 0 0 1
hop0 = record { listed = omega arith; up = refl; ends = inl (refl, refl) }

pub hop1 : Hop five 1 1 2
hop1 = record { listed = omega arith; up = refl; ends = inl (refl, refl) }

pub hop3 : Hop five 3 2 3
hop3 = record { listed = omega arith; up = refl; ends = inl (refl, refl) }

pub u01 : Under five 2 0 1
u01 = joined_link hop0 (record { under = omega (arith, p2) })

pub u02 : Under five 3 0 2
u02 = let l : 2 ≤ 3 = omega arith in joined_transitive (under_grows l u01) (joined_link hop1 (record { under = omega (arith, p3) }))

pub u03 : Under five 5 0 3
u03 = let l : 3 ≤ 5 = omega arith in joined_transitive (under_grows l u02) (joined_link hop3 (record { under = omega (arith, p5) }))

pub two_rep : (u : ℕ) → Under five 2 (two u) u
two_rep zero = joined_self 0
two_rep (suc zero) = u01
two_rep (suc (suc zero)) = joined_self 2
two_rep (suc (suc (suc zero))) = joined_self 3
two_rep (suc (suc (suc (suc zero)))) = joined_self 4
two_rep (suc (suc (suc (suc (suc u))))) = joined_self (suc (suc (suc (suc (suc u)))))

pub three_rep : (u : ℕ) → Under five 3 (three u) u
three_rep zero = joined_self 0
three_rep (suc zero) = let l : 2 ≤ 3 = omega arith in under_grows l u01
three_rep (suc (suc zero)) = u02
three_rep (suc (suc (suc zero))) = joined_self 3
three_rep (suc (suc (suc (suc zero)))) = joined_self 4
three_rep (suc (suc (suc (suc (suc u))))) = joined_self (suc (suc (suc (suc (suc u)))))

pub all_rep : (u : ℕ) → Under five 5 (all u) u
all_rep zero = joined_self 0
all_rep (suc zero) = let l : 2 ≤ 5 = omega arith in under_grows l u01
all_rep (suc (suc zero)) = let l : 3 ≤ 5 = omega arith in under_grows l u02
all_rep (suc (suc (suc zero))) = u03
all_rep (suc (suc (suc (suc zero)))) = joined_self 4
all_rep (suc (suc (suc (suc (suc u))))) = joined_self (suc (suc (suc (suc (suc u)))))

-- a label is 0 or the station itself
pub two_own : (u : ℕ) → (two u ≡ 0) ⊎ (two u ≡ u)
two_own zero = inl refl
two_own (suc zero) = inl refl
two_own (suc (suc zero)) = inr refl
two_own (suc (suc (suc zero))) = inr refl
two_own (suc (suc (suc (suc zero)))) = inr refl
two_own (suc (suc (suc (suc (suc u))))) = inr refl

pub three_own : (u : ℕ) → (three u ≡ 0) ⊎ (three u ≡ u)
three_own zero = inl refl
three_own (suc zero) = inl refl
three_own (suc (suc zero)) = inl refl
three_own (suc (suc (suc zero))) = inr refl
three_own (suc (suc (suc (suc zero)))) = inr refl
three_own (suc (suc (suc (suc (suc u))))) = inr refl

pub all_own : (u : ℕ) → (all u ≡ 0) ⊎ (all u ≡ u)
all_own zero = inl refl
all_own (suc zero) = inl refl
all_own (suc (suc zero)) = inl refl
all_own (suc (suc (suc zero))) = inl refl
all_own (suc (suc (suc (suc zero)))) = inr refl
all_own (suc (suc (suc (suc (suc u))))) = inr refl

-- where labels tell what level i joins, and level m joins the same: the group that forms at level i is that of 0, and i is m or less
pub formed :
    (label : ℕ → ℕ) {i m s : ℕ} → m ≤ i → ((u : ℕ) → (label u ≡ 0) ⊎ (label u ≡ u)) → ((u : ℕ) → Under five m (label u) u)
    → (f : Forms five i s) → label s ≡ label f.other → (s ≡ 0) × (i ≡ m)
formed label {i} {m} {s} l own rep f e = (lowest (own s) (own f.other), omega (arith, f.joint.smallest m joined))
  where
    joined : Under five m s f.other
    joined = joined_transitive (joined_symmetric (rep s)) (subst (λ z. Under five m z f.other) (sym e) (rep f.other))

    lowest : (label s ≡ 0) ⊎ (label s ≡ s) → (label f.other ≡ 0) ⊎ (label f.other ≡ f.other) → s ≡ 0
    lowest (inl p) q = omega (arith, f.lowest (label s) (under_grows l (joined_symmetric (rep s))))
    lowest (inr p) (inl q) = omega arith
    lowest (inr p) (inr q) = absurd (f.two (sym q ∙ sym e ∙ p))

pub every : (i s : ℕ) → Forms five i s → Listed five_tree i s
every i s f = go (dec_le i 1) (dec_le i 2) (dec_le i 4)
  where
    at : (x : ℕ) → Inner five_tree x → five_tree.lowest x ≡ 0 → {m : ℕ} → five_tree.level x ≡ m → (s ≡ 0) × (i ≡ m) → Listed five_tree i s
    at x j e l p = record { node = x; inner = j; level = l ∙ sym p.1; lowest = e ∙ sym p.0 }

    go : Dec (i ≤ 1) → Dec (i ≤ 2) → Dec (i ≤ 4) → Listed five_tree i s
    go (yes a) b c = absurd (f.two (sym (under_one (under_grows a f.joint.joined))))
    go (no a) (yes b) c = at 5 (record { above = omega arith; below = omega arith }) refl refl (formed two (omega arith) two_own two_rep f (under_two (under_grows b f.joint.joined)))
    go (no a) (no b) (yes c) = at 6 (record { above = omega arith; below = omega arith }) refl refl (formed three (omega arith) three_own three_rep f (under_four (under_grows c f.joint.joined)))
    go (no a) (no b) (no c) = at 7 (record { above = omega arith; below = omega arith }) refl refl (formed all (omega arith) all_own all_rep f (under_any f.joint.joined))

pub proper : Proper five
proper =
    links (λ k. (((row five k).from < 5) × ((row five k).to < 5)) × ((row five k).from ≡ (row five k).to → ⊥) × (1 ≤ delay five k)) ((omega arith, omega arith), (λ e. omega arith), omega arith)
    ((omega arith, omega arith), (λ e. omega arith), omega arith) ((omega arith, omega arith), (λ e. omega arith), omega arith) ((omega arith, omega arith), (λ e. omega arith), omega arith)
    ((omega arith, omega arith), (λ e. omega arith), omega arith) ((omega arith, omega arith), (λ e. omega arith), omega arith)

pub forms_at : (i o : ℕ) → o ≢ 0 → Under five i 0 o → ((j : ℕ) → Under five j 0 o → i ≤ j) → Forms five i 0
forms_at i o n u f = record { station = omega arith; lowest = λ v k. omega arith; other = o; two = n; joint = record { joined = u; smallest = f } }

pub forms : (x : ℕ) → Inner five_tree x → Forms five (five_tree.level x) (five_tree.lowest x)
forms =
    inner (λ x. Forms five (five_tree.level x) (five_tree.lowest x))
    (forms_at 2 1 (λ e. omega arith) u01 (λ j u. elim (dec_le j 1) [ yes l ↦ absurd (let z = under_one (under_grows l u) in omega arith) | no l ↦ omega arith ]))
    (forms_at 3 2 (λ e. omega arith) u02 (λ j u. elim (dec_le j 2) [ yes l ↦ absurd (let z = under_two (under_grows l u) in omega arith) | no l ↦ omega arith ]))
    (forms_at 5 3 (λ e. omega arith) u03 (λ j u. elim (dec_le j 4) [ yes l ↦ absurd (let z = under_four (under_grows l u) in omega arith) | no l ↦ omega arith ]))

pub order : (x y : ℕ) → Inner five_tree x → Inner five_tree y → x < y → Earlier (five_tree.level x) (five_tree.lowest x) (five_tree.level y) (five_tree.lowest y)
order x y i j =
    inner (λ x. x < y → Earlier (five_tree.level x) (five_tree.lowest x) (five_tree.level y) (five_tree.lowest y))
    (inner (λ y. 5 < y → Earlier 2 0 (five_tree.level y) (five_tree.lowest y)) (λ h. absurd (omega arith)) (λ h. inl (omega arith)) (λ h. inl (omega arith)) y j)
    (inner (λ y. 6 < y → Earlier 3 0 (five_tree.level y) (five_tree.lowest y)) (λ h. absurd (omega arith)) (λ h. absurd (omega arith)) (λ h. inl (omega arith)) y j)
    (inner (λ y. 7 < y → Earlier 5 0 (five_tree.level y) (five_tree.lowest y)) (λ h. absurd (omega arith)) (λ h. absurd (omega arith)) (λ h. absurd (omega arith)) y j) x i
