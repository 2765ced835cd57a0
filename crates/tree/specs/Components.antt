-- What the component tree of a network is: its groups at all levels, each once, as the nodes of a tree.
use Rattle.std.specs.Prelude.{◌≡◌, ℕ, suc, ◌+◌, ◌-◌, ◌/◌, ◌<◌, ◌≤◌, ◌≢◌, ◌↔◌, List, [], ◌∷◌, Some, None}
use Rattle.network.specs.Lists.{Among, Distinct}
use Rattle.network.specs.Network.{Network, Proper, Under, Joint, row, sum}
use Rattle.tree.specs.Joining.{Earlier, Joining}
use Rattle.tree.specs.Totals.{total}
use Rattle.tree.specs.Tree.{Tree, Inner, width}

-- at level i a group of two or more forms, with s as its lowest station: the group of s at level i holds another station, and their joint level
-- is i, so this set is no group at any lower level
pub record Forms (g : Network) (i s : ℕ) : Type 0 where
  pub station : s < g.stations
  pub lowest : (u : ℕ) → Under g i s u → s ≤ u
  pub other : ℕ
  pub two : other ≢ s
  pub joint : Joint g s other i

-- the inner node of that group
pub record Listed (t : Tree) (i s : ℕ) : Type 0 where
  pub node : ℕ
  pub inner : Inner t node
  pub level : t.level node ≡ i
  pub lowest : t.lowest node ≡ s

-- u is a station of the node x: routes over links of the level of x or less lead to it from the lowest station of x
abbrev pub Holds : Network → Tree → ℕ → ℕ → Type 0
Holds g t x u = Under g (t.level x) (t.lowest x) u

-- every station of x is one of y
abbrev pub Within : Network → Tree → ℕ → ℕ → Type 0
Within g t x y = (u : ℕ) → Holds g t x u → Holds g t y u

-- the node y properly holds x
pub record Above (g : Network) (t : Tree) (x y : ℕ) : Type 0 where
  pub node : y < t.nodes
  pub holds : Within g t x y
  pub properly : ¬ Within g t y x

-- the parent of the node x: the smallest node that properly holds it
pub record Parent (g : Network) (t : Tree) (x p : ℕ) : Type 0 where
  pub node : x < t.nodes
  pub above : Above g t x p
  pub smallest : (y : ℕ) → Above g t x y → Within g t p y

-- the nodes cs stand in the order of their lowest stations
abbrev pub Rising : Tree → List ℕ → Type 0
Rising t [] = Unit {0}
Rising t (c ∷ cs) = ((d : ℕ) → Among d cs → t.lowest c < t.lowest d) × Rising t cs

-- the runs of the nodes cs lie one behind the other: the first begins at the place p, and the place q comes after the last
abbrev pub Laid : Tree → List ℕ → ℕ → ℕ → Type 0
Laid t [] p q = p ≡ q
Laid t (c ∷ cs) p q = (t.low c ≡ p) × Laid t cs (suc (t.high c)) q

-- the link k is joining, and both its ends are stations of x
pub record Inside (g : Network) (t : Tree) (x k : ℕ) : Type 0 where
  pub joining : Joining g k
  pub from : Holds g t x (row g k).from
  pub to : Holds g t x (row g k).to

-- the joining links inside x, each counted once, take s together
pub record Spread (g : Network) (t : Tree) (x s : ℕ) : Type 0 where
  pub links : List ℕ
  pub once : Distinct links
  pub each : (k : ℕ) → Among k links ↔ Inside g t x k
  pub total : sum g links ≡ s

-- a ÷ b, rounded up
abbrev pub rounded_up : ℕ → ℕ → ℕ
rounded_up a b = (a + (b - 1)) / b

-- t is the component tree of g
pub record Components (g : Network) (t : Tree) : Type 0 where
  pub proper : Proper g
  -- the nodes are the stations, at level 0, ..
  pub stations : t.stations ≡ g.stations
  pub all_stations : t.stations ≤ t.nodes
  pub station_level : (u : ℕ) → u < t.stations → t.level u ≡ 0
  pub station_lowest : (u : ℕ) → u < t.stations → t.lowest u ≡ u
  -- .. and the groups of two or more, each at the lowest level where it is one; they are numbered by level, then by lowest station
  pub forms : (x : ℕ) → Inner t x → Forms g (t.level x) (t.lowest x)
  pub every : (i s : ℕ) → Forms g i s → Listed t i s
  pub order : (x y : ℕ) → Inner t x → Inner t y → x < y → Earlier (t.level x) (t.lowest x) (t.level y) (t.lowest y)
  -- a node's parent is the smallest node that properly holds it; a root is properly held by none
  pub parent : (x p : ℕ) → t.parent x ≡ Some p → Parent g t x p
  pub root : (x y : ℕ) → t.parent x ≡ None → x < t.nodes → ¬ Above g t x y
  -- children and roots stand in the order of their lowest stations
  pub children : (x c : ℕ) → Among c (t.children x) ↔ t.parent c ≡ Some x
  pub rising : (x : ℕ) → Rising t (t.children x)
  pub roots : List ℕ
  pub tops : (r : ℕ) → Among r roots ↔ (r < t.nodes) × (t.parent r ≡ None)
  pub rising_roots : Rising t roots
  -- in that order they share out the places: the roots all of them, and the children of a node its run; a station's run is its place
  pub laid_roots : Laid t roots 0 t.stations
  pub laid : (x : ℕ) → Inner t x → Laid t (t.children x) (t.low x) (suc (t.high x))
  pub seat_low : (u : ℕ) → u < t.stations → t.low u ≡ t.place u
  pub seat_high : (u : ℕ) → u < t.stations → t.high u ≡ t.place u
  -- the spread of a node, and the buckets of an inner node, numbered through
  pub spread : (x : ℕ) → x < t.nodes → Spread g t x (t.spread x)
  pub buckets : (x : ℕ) → Inner t x → t.buckets x ≡ rounded_up (t.spread x) (width t x) + 1
  pub no_buckets : (u : ℕ) → u < t.stations → t.buckets u ≡ 0
  pub numbered : (x : ℕ) → Inner t x → t.first x ≡ total t.buckets x
