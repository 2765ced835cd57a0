-- The numbers of the groups, while they are given level by level.
use Rattle.std.specs.Prelude.{◌≡◌, ℕ, suc, ◌<◌, ◌≤◌, ◌⊎◌, List, length, slice_index_or}
use Rattle.network.specs.Network.{Network}
use Rattle.tree.specs.Components.{Forms}
use Rattle.tree.specs.Joining.{Earlier}
use Rattle.making.specs.declared.nodes.Node.{Node}

-- what is past the last node
abbrev pub no_node : Node
no_node = record { level = 0; lowest = 0 }

abbrev pub level_of : List Node → ℕ → ℕ
level_of nodes x = (slice_index_or nodes x no_node).level

abbrev pub lowest_of : List Node → ℕ → ℕ
lowest_of nodes x = (slice_index_or nodes x no_node).lowest

-- the first n nodes are the stations, each by itself, of level 0
abbrev pub StationsFirst : ℕ → List Node → Type 0
StationsFirst n nodes = (x : ℕ) → x < n → slice_index_or nodes x no_node ≡ record { level = 0; lowest = x }

-- all levels up to i have been gone through, and of the level after it the stations below s
abbrev pub Passed : ℕ → ℕ → ℕ → ℕ → Type 0
Passed i s j r = (j ≤ i) ⊎ ((j ≡ suc i) × (r < s))

-- one of the nodes is the group that forms at level j with the lowest station r
pub record Placed (g : Network) (nodes : List Node) (j r : ℕ) : Type 0 where
  pub node : ℕ
  pub above : g.stations ≤ node
  pub below : node < length nodes
  pub is_level : level_of nodes node ≡ j
  pub is_lowest : lowest_of nodes node ≡ r

-- the nodes after the stations are the groups passed so far, by rising level, then by rising lowest station
pub record Numbered (g : Network) (i s : ℕ) (nodes : List Node) : Type 0 where
  pub stations : g.stations ≤ length nodes
  pub forms : (x : ℕ) → g.stations ≤ x → x < length nodes → Forms g (level_of nodes x) (lowest_of nodes x)
  pub past : (x : ℕ) → g.stations ≤ x → x < length nodes → Passed i s (level_of nodes x) (lowest_of nodes x)
  pub every : (j r : ℕ) → Passed i s j r → Forms g j r → Placed g nodes j r
  pub order : (x y : ℕ) → g.stations ≤ x → x < y → y < length nodes → Earlier (level_of nodes x) (lowest_of nodes x) (level_of nodes y) (lowest_of nodes y)

-- there is room for every group
abbrev pub Few : Network → ℕ → Type 0
Few g room = (i s : ℕ) (nodes : List Node) → Numbered g i s nodes → Forms g (suc i) s → length nodes < room
