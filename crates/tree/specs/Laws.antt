-- What is proved of the component tree t of a network g. Each law is the contract of the function of src/laws.rt that has its name.
use Rattle.std.specs.Prelude.{◌≡◌, ℕ, ◌<◌, ◌≤◌, ◌↔◌, List, Some, None}
use Rattle.network.specs.Levels.{IsLevel}
use Rattle.network.specs.Network.{Network, Route, NoRoute, Under, Group, Joint}
use Rattle.tree.specs.Components.{Components}
use Rattle.tree.specs.Five.{five, five_tree}
use Rattle.tree.specs.Tree.{Tree, Below, In, Inner, Fits, Sized, Runs}

-- two trees are the same in all that is said of a node
pub record Agree (t t' : Tree) : Type 0 where
  pub stations : t'.stations ≡ t.stations
  pub nodes : t'.nodes ≡ t.nodes
  pub level : (x : ℕ) → x < t.nodes → t'.level x ≡ t.level x
  pub lowest : (x : ℕ) → x < t.nodes → t'.lowest x ≡ t.lowest x
  pub parent : (x : ℕ) → x < t.nodes → t'.parent x ≡ t.parent x
  pub children : (x : ℕ) → x < t.nodes → t'.children x ≡ t.children x
  pub spread : (x : ℕ) → x < t.nodes → t'.spread x ≡ t.spread x
  pub buckets : (x : ℕ) → x < t.nodes → t'.buckets x ≡ t.buckets x
  pub first : (x : ℕ) → Inner t x → t'.first x ≡ t.first x
  pub low : (x : ℕ) → x < t.nodes → t'.low x ≡ t.low x
  pub high : (x : ℕ) → x < t.nodes → t'.high x ≡ t.high x
  pub place : (u : ℕ) → u < t.stations → t'.place u ≡ t.place u

-- a network has one component tree
abbrev pub ANetworkHasOneTree : Type 0
ANetworkHasOneTree = (g : Network) (t t' : Tree) → Components g t → Components g t' → Agree t t'

-- it is what the walk asks of a tree
pub record Serves (g : Network) (t : Tree) : Type 0 where
  pub fits : Fits g t
  pub sized : 1 ≤ g.stations → Sized t
  pub runs : Runs t
  pub places : (u : ℕ) → u < t.stations → t.place u < t.stations

abbrev pub TheTreeServesTheWalk : Type 0
TheTreeServesTheWalk = (g : Network) (t : Tree) → Components g t → Serves g t

-- how the places lie: in the order of the lowest stations
pub record InOrder (t : Tree) : Type 0 where
  -- a node's run begins with its lowest station
  pub first : (x : ℕ) → x < t.nodes → t.place (t.lowest x) ≡ t.low x
  -- of two children of a node, or two roots, the one with the lower lowest station lies before the other
  pub siblings : (x y p : ℕ) → t.parent x ≡ Some p → t.parent y ≡ Some p → t.lowest x < t.lowest y → t.high x < t.low y
  pub roots : (x y : ℕ) → x < t.nodes → y < t.nodes → t.parent x ≡ None → t.parent y ≡ None → t.lowest x < t.lowest y → t.high x < t.low y

abbrev pub PlacesAreInOrder : Type 0
PlacesAreInOrder = (g : Network) (t : Tree) → Components g t → InOrder t

-- a node with just the stations that level i joins with a: with their group at level i
pub record Whole (g : Network) (t : Tree) (i a : ℕ) : Type 0 where
  pub node : ℕ
  pub below : node < t.nodes
  pub level : t.level node ≤ i
  pub inside : (u : ℕ) → In t u node → Under g i a u
  pub every : (u : ℕ) → Under g i a u → In t u node

-- the nodes are the groups, each at its lowest level
pub record NodesAreGroups (g : Network) (t : Tree) : Type 0 where
  -- the stations of a node, those that have it as their parent or parent's parent .., are a group at its level
  pub group : (x : ℕ) → x < t.nodes → Group g (t.level x) (λ u. In t u x)
  -- those of an inner node at no lower level
  pub lower : (x i : ℕ) → Inner t x → i < t.level x → ¬ Group g i (λ u. In t u x)
  -- its lowest station is the lowest of them
  pub lowest : (x : ℕ) → x < t.nodes → In t (t.lowest x) x
  pub least : (x u : ℕ) → In t u x → t.lowest x ≤ u
  -- and each group of each level is a node
  pub every : (i a : ℕ) → a < t.stations → Whole g t i a

abbrev pub TheNodesAreTheGroups : Type 0
TheNodesAreTheGroups = (g : Network) (t : Tree) → Components g t → NodesAreGroups g t

-- y is the smallest node that holds a and b
pub record Smallest (t : Tree) (a b y : ℕ) : Type 0 where
  pub one : In t a y
  pub other : In t b y
  pub least : (z : ℕ) → In t a z → In t b z → Below t y z

-- the level of the smallest common node is the joint level
pub record JointLevel (g : Network) (t : Tree) : Type 0 where
  pub level : (a b y : ℕ) → Smallest t a b y → Joint g a b (t.level y)
  pub exists : (a b : ℕ) (ks : List ℕ) → a < t.stations → Route g a ks b → (y : ℕ) × Smallest t a b y
  -- two stations have no common node exactly if no route joins them
  pub none : (a b : ℕ) → a < t.stations → NoRoute g a b ↔ ((y : ℕ) → In t a y → ¬ In t b y)

abbrev pub TheSmallestNodeHasTheJointLevel : Type 0
TheSmallestNodeHasTheJointLevel = (g : Network) (t : Tree) → Components g t → JointLevel g t

-- a link of 4 ns is of level 3 and of no other
abbrev pub FourIsOfLevelThree : Type 0
FourIsOfLevelThree = (i : ℕ) → IsLevel 4 i ↔ i ≡ 3

-- the worked case
abbrev pub FiveStationsHaveThisTree : Type 0
FiveStationsHaveThisTree = Components five five_tree
