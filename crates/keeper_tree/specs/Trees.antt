-- A tree of stored leasts over n places: node 1 is the root, and the node n + p stands for the place p.
use Rattle.std.specs.Prelude.{◌≡◌, ℕ, ◌+◌, ◌*◌, ◌<◌, ◌≤◌, ◌≢◌, List, None, Option, slice_index_or}
use Rattle.keeper.specs.Lesser.{lesser_of}

-- what the node k has
abbrev pub under : List (Option ℕ) → ℕ → Option ℕ
under nodes k = slice_index_or nodes k None

-- each node that is no place has the least of the two below it
abbrev pub Over : ℕ → (ℕ → Option ℕ) → Type 0
Over n f = (k : ℕ) → (1 ≤ k) × (k < n) → f k ≡ lesser_of (f (2 * k)) (f (2 * k + 1))

-- the same but for the node j
abbrev pub OverBut : ℕ → ℕ → (ℕ → Option ℕ) → Type 0
OverBut n j f = (k : ℕ) → (1 ≤ k) × (k < n) → k ≢ j → f k ≡ lesser_of (f (2 * k)) (f (2 * k + 1))
