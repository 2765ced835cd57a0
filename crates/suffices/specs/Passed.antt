-- Items that go through a bucket of a shelf.
use Rattle.std.specs.Prelude.{◌≡◌, ℕ, ◌+◌, ◌<◌, ◌≤◌, cond, List, [], ◌∷◌, length, Some, None, Option, ◌==◌, slice_index}
use Rattle.shelf.specs.Holds.{Holds}

-- how often x occurs in a list; two lists in which every x occurs equally often are the same but for the order
abbrev pub times : ℕ → List ℕ → ℕ
times x [] = 0
times x (y ∷ l) = cond (y == x) 1 0 + times x l

-- 1 for an item that stands in the bucket b, and 0 for any other
abbrev pub counts : ℕ → Option ℕ → ℕ
counts b None = 0
counts b (Some c) = cond (c == b) 1 0

-- how many items stand in the bucket b
abbrev pub count_in : ℕ → List (Option ℕ) → ℕ
count_in b [] = 0
count_in b (o ∷ l) = counts b o + count_in b l

-- the items that can be put into the bucket b of a cleared shelf: all exist, and so does the bucket; none occurs twice; not too many
pub record MayPass (h : Holds) (b : ℕ) (l : List ℕ) : Type 0 where
  pub bucket : b < h.buckets
  pub exist : (k : ℕ) → k < length l → slice_index l k < h.items
  pub once : (x : ℕ) → times x l ≤ 1
  pub few : length l ≤ 65535

-- the shelf has as many items and buckets as before
abbrev pub SameSize : Holds → Holds → Type 0
SameSize h m = (m.items ≡ h.items) × (m.buckets ≡ h.buckets)
