-- Sums over lists without repetition.
use Rattle.std.proofs.Common.{◌≡◌, ℕ, zero, suc, ◌+◌, ◌<◌, ◌≤◌, ◌≢◌, List, [], ◌∷◌, ◌++◌, length, sym, refl, ◌∙◌, subst, inl, inr, arith}
use native.Mathlib.Decide.{ℕ_discrete}
use Rattle.network.specs.Lists.{Among, Inside, Distinct}
use Rattle.network.proofs.Lists.{among_join}
use Rattle.tree.specs.Totals.{total}

-- f of each element, together
abbrev pub tally : (ℕ → ℕ) → List ℕ → ℕ
tally f [] = 0
tally f (k ∷ ks) = f k + tally f ks

record Without (f : ℕ → ℕ) (k : ℕ) (ls : List ℕ) : Type 0 where
  rest : List ℕ
  add : tally f ls ≡ f k + tally f rest
  others : (j : ℕ) → j ≢ k → Among j ls → Among j rest

without : (f : ℕ → ℕ) (k : ℕ) (ls : List ℕ) → Among k ls → Without f k ls
without f k [] m = elim m [ ]
without f k (l ∷ ls) (inl e) = record { rest = ls; add = rw e refl; others = λ j n. elim [ inl d ↦ absurd (n (d ∙ sym e)) | inr a ↦ a ] }
without f k (l ∷ ls) (inr m) =
    let w = without f k ls m in
    record { rest = l ∷ w.rest; add = omega (arith, w.add); others = λ j n. elim [ inl d ↦ inl d | inr a ↦ inr (w.others j n a) ] }

pub tally_once : (f : ℕ → ℕ) (ks ls : List ℕ) → Distinct ks → Inside ks ls → tally f ks ≤ tally f ls
tally_once f [] ls d i = omega arith
tally_once f (k ∷ ks) ls d i =
    let w = without f k ls (i k (inl refl)) in
    omega (arith, w.add, tally_once f ks w.rest d.1 (λ j a. w.others j (λ e. d.0 (subst (λ n. Among n ks) e a)) (i j (inr a))))

abbrev upto : ℕ → List ℕ
upto zero = []
upto (suc n) = n ∷ upto n

upto_among : (n k : ℕ) → k < n → Among k (upto n)
upto_among zero k h = absurd (omega arith)
upto_among (suc n) k h = elim (ℕ_discrete k n) [ yes e ↦ inl e | no e ↦ inr (upto_among n k (omega arith)) ]

upto_total : (f : ℕ → ℕ) (n : ℕ) → tally f (upto n) ≡ total f n
upto_total f zero = refl
upto_total f (suc n) = omega (arith, upto_total f n)

-- elements below n, none of them twice, together make no more than all below n
pub tally_below : (f : ℕ → ℕ) (n : ℕ) (ks : List ℕ) → Distinct ks → ((k : ℕ) → Among k ks → k < n) → tally f ks ≤ total f n
tally_below f n ks d h = omega (arith, upto_total f n, tally_once f ks (upto n) d (λ k a. upto_among n k (h k a)))

pub tally_join : (f : ℕ → ℕ) (ks ls : List ℕ) → tally f (ks ++ ls) ≡ tally f ks + tally f ls
tally_join f [] ls = omega arith
tally_join f (k ∷ ks) ls = omega (arith, tally_join f ks ls)

pub length_join : (ks ls : List ℕ) → length (ks ++ ls) ≡ length ks + length ls
length_join [] ls = omega arith
length_join (k ∷ ks) ls = omega (arith, length_join ks ls)

pub among_left : (k : ℕ) (ks ls : List ℕ) → Among k ks → Among k (ks ++ ls)
among_left k [] ls a = elim a [ ]
among_left k (j ∷ ks) ls (inl e) = inl e
among_left k (j ∷ ks) ls (inr a) = inr (among_left k ks ls a)

pub among_right : (k : ℕ) (ks ls : List ℕ) → Among k ls → Among k (ks ++ ls)
among_right k [] ls a = a
among_right k (j ∷ ks) ls a = inr (among_right k ks ls a)

pub distinct_join : (ks ls : List ℕ) → Distinct ks → Distinct ls → ((k : ℕ) → Among k ks → ¬ Among k ls) → Distinct (ks ++ ls)
distinct_join [] ls d e f = e
distinct_join (k ∷ ks) ls d e f =
    (λ a. elim (among_join k ks ls a) [ inl b ↦ d.0 b | inr b ↦ f k (inl refl) b ], distinct_join ks ls d.1 e (λ j a. f j (inr a)))

-- lists that share nothing, put together
pub record Gathered (f : ℕ → List ℕ) (w : ℕ → ℕ) (n : ℕ) : Type 0 where
  pub all : List ℕ
  pub once : Distinct all
  pub among : (k : ℕ) → Among k all → (x : ℕ) × (x < n) × Among k (f x)
  pub add : tally w all ≡ total (λ x. tally w (f x)) n

pub gather : (f : ℕ → List ℕ) (w : ℕ → ℕ) → ((x : ℕ) → Distinct (f x)) → ((x y k : ℕ) → Among k (f x) → Among k (f y) → x ≡ y) → (n : ℕ) → Gathered f w n
gather f w d s zero = record { all = []; once = tt; among = λ k a. elim a [ ]; add = refl }
gather f w d s (suc n) =
    let r = gather f w d s n in
    record {
      all = f n ++ r.all;
      once = distinct_join (f n) r.all (d n) r.once (λ k a b. let z = r.among k b in omega (arith, s n z.0 k a z.2, z.1));
      among = λ k a. elim (among_join k (f n) r.all a) [ inl b ↦ (n, omega arith, b) | inr b ↦ (let z = r.among k b in (z.0, omega (arith, z.1), z.2)) ];
      add = omega (arith, tally_join w (f n) r.all, r.add);
    }
