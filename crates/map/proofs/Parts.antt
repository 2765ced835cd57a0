-- Parts of lists.
use Rattle.std.proofs.Common.{◌≡◌, ℕ, zero, suc, ◌+◌, ◌<◌, ◌≤◌, List, length, get_or, refl, ap, ◌∙◌, arith}
use Rattle.map.specs.Means.{part}

pub part_length : (l : List ℕ) (i n : ℕ) → length (part l i n) ≡ n
part_length l i zero = refl
part_length l i (suc n) = ap suc (part_length l (suc i) n)

pub part_at : (l : List ℕ) (i n k : ℕ) → k < n → get_or (part l i n) k 0 ≡ get_or l (i + k) 0
part_at l i zero k h = absurd (omega arith)
part_at l i (suc n) zero h = let e : i ≡ i + 0 = omega arith in ap (λ (j : ℕ). get_or l j 0) e
part_at l i (suc n) (suc k) h = let e : suc i + k ≡ i + suc k = omega arith in part_at l (suc i) n k (omega arith) ∙ ap (λ (j : ℕ). get_or l j 0) e

pub part_past : (l : List ℕ) (i n k : ℕ) → n ≤ k → get_or (part l i n) k 0 ≡ 0
part_past l i zero k h = refl
part_past l i (suc n) zero h = absurd (omega arith)
part_past l i (suc n) (suc k) h = part_past l (suc i) n k (omega arith)
