-- How often a number occurs in a list, and how many items stand in a bucket, after a write.
use Rattle.std.proofs.Common.{◌≡◌, ℕ, zero, suc, ◌+◌, ◌<◌, ◌≤◌, cond, eqb, ◌≢◌, List, [], ◌∷◌, ◌++◌, length, get_or, take, set, Some, None, Option, sym, refl, ap, ◌∙◌, inl, inr, le_of_suc-le-suc, arith, get_or-set_other, get_or-set_same, eq-eqb, ne_eqb}
use Rattle.std.proofs.lemmas.Bool.{cases_eq}
use Rattle.suffices.specs.Passed.{times, counts, count_in}

-- one more at the end of a list
abbrev pub is_it : ℕ → ℕ → ℕ
is_it y x = cond (eqb y x) 1 0

pub times_push : (x y : ℕ) (l : List ℕ) → times x (l ++ (y ∷ [])) ≡ times x l + is_it y x
times_push x y [] = omega arith
times_push x y (z ∷ l) = let h = times_push x y l in omega arith

pub times_take : (x n : ℕ) (l : List ℕ) → times x (take n l) ≤ times x l
times_take x zero l = omega arith
times_take x (suc n) [] = omega arith
times_take x (suc n) (y ∷ l) = let h = times_take x n l in omega arith

pub it : (y : ℕ) → is_it y y ≡ 1
it y = rw (eq-eqb y y refl)

pub not_it : (y x : ℕ) → y ≢ x → is_it y x ≡ 0
not_it y x n = rw (ne_eqb y x n)

-- an item stands in the bucket exactly if it counts
pub counts_one : (b : ℕ) (o : Option ℕ) → o ≡ Some b → counts b o ≡ 1
counts_one b o e = ap (counts b) e ∙ it b

pub counts_none : (b : ℕ) (o : Option ℕ) → counts b o ≡ 0 → o ≡ Some b → ⊥
counts_none b o z e = let h = counts_one b o e in omega arith

pub counts_zero : (b : ℕ) (o : Option ℕ) → (o ≡ Some b → ⊥) → counts b o ≡ 0
counts_zero b None h = refl
counts_zero b (Some c) h = not_it c b (λ e. h (ap Some e))

-- how many stand in the bucket after a write
pub count_set : (b : ℕ) (l : List (Option ℕ)) (i : ℕ) (o : Option ℕ) → i < length l → count_in b (set l i o) + counts b (get_or l i None) ≡ count_in b l + counts b o
count_set b [] i o lt = let z : ⊥ = omega arith in absurd z
count_set b (x ∷ l) zero o lt = omega arith
count_set b (x ∷ l) (suc i) o lt = let h = count_set b l i o (le_of_suc-le-suc lt) in omega arith

pub count_bare : (b : ℕ) (l : List (Option ℕ)) → ((i : ℕ) → get_or l i None ≡ Some b → ⊥) → count_in b l ≡ 0
count_bare b [] h = refl
count_bare b (o ∷ l) h = let x = counts_zero b o (h 0) in let y = count_bare b l (λ i. h (suc i)) in omega arith

pub bare_count : (b : ℕ) (l : List (Option ℕ)) → count_in b l ≡ 0 → (i : ℕ) → get_or l i None ≡ Some b → ⊥
bare_count b [] z i e = let w : ◌≡◌ {A = ℕ} 0 1 = cc in omega arith
bare_count b (o ∷ l) z zero e = counts_none b o (omega arith) e
bare_count b (o ∷ l) z (suc i) e = bare_count b l (omega arith) i e

-- what an item counts once the item i, which did not count, stands in the bucket
pub counts_in : (b : ℕ) (l : List (Option ℕ)) (i x : ℕ) → i < length l → counts b (get_or l i None) ≡ 0
    → counts b (get_or (set l i (Some b)) x None) ≡ counts b (get_or l x None) + is_it i x
counts_in b l i x lt z = elim (cases_eq x i) [
  | inl e ↦ (
      let new = counts_one b (get_or (set l i (Some b)) x None) (ap (λ (k : ℕ). get_or (set l i (Some b)) k None) e ∙ get_or-set_same l i (Some b) None lt) in
      let old = ap (λ (k : ℕ). counts b (get_or l k None)) e in
      let one = ap (is_it i) e ∙ it i in
      omega arith)
  | inr n ↦ (
      let same = ap (counts b) (get_or-set_other l i x (Some b) None n) in
      let none = not_it i x (λ e. n (sym e)) in
      omega arith)
]

-- what an item counts once the item i, which stood in the bucket, is nowhere
pub counts_out : (b : ℕ) (l : List (Option ℕ)) (i x : ℕ) → i < length l → get_or l i None ≡ Some b
    → counts b (get_or (set l i None) x None) + is_it i x ≡ counts b (get_or l x None)
counts_out b l i x lt h = elim (cases_eq x i) [
  | inl e ↦ (
      let new = ap (counts b) (ap (λ (k : ℕ). get_or (set l i None) k None) e ∙ get_or-set_same l i None None lt) in
      let old = ap (λ (k : ℕ). counts b (get_or l k None)) e ∙ counts_one b (get_or l i None) h in
      let one = ap (is_it i) e ∙ it i in
      omega arith)
  | inr n ↦ (
      let same = ap (counts b) (get_or-set_other l i x None None n) in
      let none = not_it i x (λ e. n (sym e)) in
      omega arith)
]
