-- The least of a list of delays but for one.
use Rattle.std.specs.Prelude.{◌≡◌, ℕ, ◌<◌, ◌≤◌, ◌≢◌, List, slice_index}

-- d is the least of the first n delays but for that at `out`
pub record LeastBut (delays : List ℕ) (n out d : ℕ) : Type 0 where
  pub place : ℕ
  pub below : place < n
  pub other : place ≢ out
  pub there : slice_index delays place ≡ d
  pub least : (p : ℕ) → p < n → p ≢ out → d ≤ slice_index delays p
