-- Lists of buckets or nowhere, one for each item.
use Rattle.std.proofs.Common.{◌≡◌, ℕ, zero, suc, ◌<◌, ◌≤◌, ◌⊎◌, List, [], ◌∷◌, length, get_or, set, replicate, Some, None, Option, sym, refl, ◌∙◌, inl, inr, arith, ext_get_or}
use Rattle.std.proofs.lemmas.Bool.{cases_lt}
use Rattle.std.proofs.lemmas.List.{get_or_past, get_or-replicate, length-replicate}
use Rattle.std.proofs.lemmas.Option.{none-some}

-- only an item that exists stands in a bucket
pub listed : (l : List (Option ℕ)) (i b : ℕ) → get_or l i None ≡ Some b → i < length l
listed l i b e = elim (cases_lt i (length l)) [
  | inl h ↦ h
  | inr h ↦ absurd (none-some b (sym (get_or_past l i None h) ∙ e))
]

-- what is read after a write was written, or stood there before
pub read_set : {A : Type 0} (l : List A) (i k : ℕ) (x d y : A) → get_or (set l i x) k d ≡ y → (x ≡ y) ⊎ (get_or l k d ≡ y)
read_set [] i k x d y h = inr h
read_set (z ∷ l) zero zero x d y h = inl h
read_set (z ∷ l) zero (suc k) x d y h = inr h
read_set (z ∷ l) (suc i) zero x d y h = inr h
read_set (z ∷ l) (suc i) (suc k) x d y h = read_set l i k x d y h

-- an item that is lifted is nowhere
pub none_at : (l : List (Option ℕ)) (i : ℕ) → get_or (set l i None) i None ≡ None
none_at [] i = refl
none_at (x ∷ l) zero = refl
none_at (x ∷ l) (suc i) = none_at l i

pub none_blank : (n i : ℕ) → get_or (replicate {A = Option ℕ} n None) i None ≡ None
none_blank n i = elim (cases_lt i n) [
  | inl l ↦ get_or-replicate n i None None l
  | inr l ↦ (let p : length (replicate {A = Option ℕ} n None) ≤ i = simp length-replicate l in get_or_past (replicate n None) i None p)
]

-- where each item is nowhere, the list is blank
pub all_none : (l : List (Option ℕ)) (n : ℕ) → length l ≡ n → ((i : ℕ) → i < n → get_or l i None ≡ None) → l ≡ replicate n None
all_none l n e h = ext_get_or None l (replicate n None) (e ∙ sym (length-replicate n None))
    (λ i lt. let below : i < n = omega arith in h i below ∙ sym (none_blank n i))
