-- The rank of links, and the links that join.
use Rattle.std.specs.Prelude.{◌≡◌, ℕ, ◌<◌, true, false, ◌⊎◌, length, slice_index_or}
use Rattle.network.specs.Levels.{IsLevel}
use Rattle.network.specs.Network.{Network, Joined, row, delay}

-- of two pairs of numbers, (i, s) stands before (j, r): by the first number, then by the second
abbrev pub Earlier : ℕ → ℕ → ℕ → ℕ → Type 0
Earlier i s j r = (i < j) ⊎ ((i ≡ j) × (s < r))

-- the link j is ranked before the link k: by level, then by number
pub record Before (g : Network) (j k : ℕ) : Type 0 where
  pub level : ℕ
  pub other : ℕ
  pub first : IsLevel (delay g j) level
  pub second : IsLevel (delay g k) other
  pub order : Earlier level j other k

-- the link k is joining: it is in service, and no route of links ranked before it connects its ends. (The field calls the joining links the
-- spanning forest that Kruskal's algorithm finds.)
pub record Joining (g : Network) (k : ℕ) : Type 0 where
  pub listed : k < length g.rows
  pub up : slice_index_or g.service k false ≡ true
  pub alone : ¬ Joined g (λ j. Before g j k) (row g k).from (row g k).to
