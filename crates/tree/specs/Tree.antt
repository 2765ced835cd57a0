-- A tree of groups over the stations of a network, and what the settling walk asks of it.
use Rattle.std.specs.Prelude.{◌≡◌, ℕ, ◌+◌, ◌-◌, ◌*◌, ◌^◌, ◌<◌, ◌≤◌, ◌⊎◌, List, [], ◌∷◌, Some, None, Option}
use Rattle.network.specs.Network.{Network, Route, Hop, Each, Small, Proper, sum, delay}
use Rattle.tree.specs.Totals.{total}

-- nodes are numbers: the stations first, then the inner nodes
pub record Tree : Type 0 where
  pub stations : ℕ
  pub nodes : ℕ
  -- by node: the smallest node that properly holds it; a root has none
  pub parent : ℕ → Option ℕ
  pub children : ℕ → List ℕ
  -- by node: its level, and the lowest of its stations
  pub level : ℕ → ℕ
  pub lowest : ℕ → ℕ
  -- by inner node: what the joining links inside it take together, how many buckets it has, and the number of the first
  pub spread : ℕ → ℕ
  pub buckets : ℕ → ℕ
  pub first : ℕ → ℕ
  -- the place of a station, and the first and last place of a node's run
  pub place : ℕ → ℕ
  pub low : ℕ → ℕ
  pub high : ℕ → ℕ

-- how wide the buckets of the inner node x are
abbrev pub width : Tree → ℕ → ℕ
width t x = 2 ^ (t.level x - 1)

-- how many buckets there are
abbrev pub buckets_in_all : Tree → ℕ
buckets_in_all t = total t.buckets t.nodes

-- x is y, or y is the parent of x, or the parent of its parent ..: y holds x
pub data Below (t : Tree) : ℕ → ℕ → Type 0 where
  self : {x : ℕ} → Below t x x
  up : {x p y : ℕ} → t.parent x ≡ Some p → Below t p y → Below t x y

-- u is a station of the node x
pub record In (t : Tree) (u x : ℕ) : Type 0 where
  pub station : u < t.stations
  pub below : Below t u x

-- x is an inner node
pub record Inner (t : Tree) (x : ℕ) : Type 0 where
  pub above : t.stations ≤ x
  pub below : x < t.nodes

-- c is one of the list cs
abbrev pub Among : ℕ → List ℕ → Type 0
Among c [] = ⊥
Among c (d ∷ cs) = (c ≡ d) ⊎ Among c cs

-- none of them stands in it twice
abbrev pub Distinct : List ℕ → Type 0
Distinct [] = Unit {0}
Distinct (c ∷ cs) = (¬ Among c cs) × Distinct cs

-- a route from a to b over links of the level of x or less, no longer than the spread of x
pub record Near (g : Network) (t : Tree) (x a b : ℕ) : Type 0 where
  pub links : List ℕ
  pub route : Route g a links b
  pub small : Each (Small g (t.level x)) links
  pub short : sum g links ≤ t.spread x

-- the tree fits the network: all that the walk has to know of it
pub record Fits (g : Network) (t : Tree) : Type 0 where
  pub proper : Proper g
  pub stations : t.stations ≡ g.stations
  -- a parent is an inner node, later in number and of a higher level; an inner node's level is at least 1
  pub inner : (x p : ℕ) → t.parent x ≡ Some p → Inner t p
  pub later : (x p : ℕ) → t.parent x ≡ Some p → x < p
  pub rising : (x p : ℕ) → t.parent x ≡ Some p → t.level x < t.level p
  pub positive : (x : ℕ) → Inner t x → 1 ≤ t.level x
  -- the children of a node, each once
  pub child : (x c : ℕ) → Among c (t.children x) → t.parent c ≡ Some x
  pub listed : (x c : ℕ) → t.parent c ≡ Some x → Among c (t.children x)
  pub once : (x : ℕ) → Distinct (t.children x)
  -- a link that leads out of a child of y takes as long as a bucket of y is wide; no link leads out of a root
  pub cut : (c y k a b : ℕ) → t.parent c ≡ Some y → Below t a c → Hop g k a b → ¬ Below t b c → width t y ≤ delay g k
  pub whole : (r k a b : ℕ) → t.parent r ≡ None → Below t a r → Hop g k a b → Below t b r
  -- the stations of an inner node are near each other, and its buckets cover its spread
  pub near : (x a b : ℕ) → Inner t x → In t a x → In t b x → Near g t x a b
  pub room : (x : ℕ) → Inner t x → t.spread x + width t x ≤ t.buckets x * width t x
  -- the buckets are numbered through all nodes, in their order
  pub numbered : (x : ℕ) → Inner t x → t.first x ≡ total t.buckets x

-- how many nodes and buckets there are
pub record Sized (t : Tree) : Type 0 where
  pub nodes : t.nodes < 2 * t.stations
  pub buckets : buckets_in_all t + 6 ≤ 6 * t.stations

-- some station of x has the place p
pub record Seat (t : Tree) (x p : ℕ) : Type 0 where
  pub who : ℕ
  pub inside : In t who x
  pub here : t.place who ≡ p

-- a node's run of places is exactly the places of its stations, and no two stations share one
pub record Runs (t : Tree) : Type 0 where
  pub starts : (u x : ℕ) → In t u x → t.low x ≤ t.place u
  pub ends : (u x : ℕ) → In t u x → t.place u ≤ t.high x
  pub seat : (x p : ℕ) → x < t.nodes → t.low x ≤ p → p ≤ t.high x → Seat t x p
  pub apart : (u w : ℕ) → u < t.stations → w < t.stations → t.place u ≡ t.place w → u ≡ w
