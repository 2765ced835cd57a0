-- What the parts of a visit ask of each other, and what they promise.
use Rattle.std.specs.Prelude.{◌≡◌, ℕ, ◌+◌, ◌^◌, ◌<◌, ◌≤◌, ◌≢◌, false, length, Some, None, Option, slice_index_or}
use Rattle.network.specs.Network.{Network, Hop, row}
use Rattle.network.specs.Schemes.{network_of}
use Rattle.network.specs.declared.scheme.Scheme.{Scheme}
use Rattle.network.specs.declared.entry.Entry.{Entry}
use Rattle.network.specs.Entries.{is_in}
use Rattle.tree.specs.Tree.{Tree, Fits, Sized, Runs, buckets_in_all}
use Rattle.walk.specs.State.{Shelf, Core, called}
use Rattle.walk.specs.Rules.{Belongs, Moved, Call, Links}
use Rattle.walk.specs.Able.{Safe}
use Rattle.map.specs.declared.map.Map.{Map}
use Rattle.map.specs.Means.{tree_of}

-- the map is a tree of the network that the scheme describes
pub record Charted (scheme : Scheme) (m : Map) : Type 0 where
  pub fits : Fits (network_of scheme) (tree_of m)
  pub sized : Sized (tree_of m)
  pub runs : Runs (tree_of m)

-- what code has to know of a tree alone
pub record Walkable (t : Tree) : Type 0 where
  -- a parent is later in number, and its buckets are among those that there are
  pub later : (x p : ℕ) → t.parent x ≡ Some p → x < p
  pub listed : (x p : ℕ) → t.parent x ≡ Some p → p < t.nodes
  pub within : (x p : ℕ) → t.parent x ≡ Some p → t.first p + t.buckets p ≤ buckets_in_all t
  pub runs : Runs t

-- c was brought to where it belongs
pub record Brought (t : Tree) (s : Core) (c : ℕ) (h' : Shelf) : Type 0 where
  pub to : Option ℕ
  pub belongs : Belongs t s.so_far s.base c to
  pub moved : Moved t c to s.shelf h'

-- e is the entry of the link k
pub record EntryOf (g : Network) (k : ℕ) (e : Entry) : Type 0 where
  pub listed : k < length g.rows
  pub is_row : e.row ≡ row g k
  pub up : is_in e.standing ≡ slice_index_or g.service k false

-- the link k leads from v to u and nowhere else
pub record Only (g : Network) (k v u : ℕ) : Type 0 where
  pub hop : Hop g k v u
  pub only : (z : ℕ) → Hop g k v z → z ≡ u

-- v can be visited: the keeper has a delay of it, which is not too large, and then each of its links can be followed
pub record Callable (g : Network) (t : Tree) (s : Core) (v : ℕ) : Type 0 where
  pub known : s.so_far v ≢ None
  pub short : (d : ℕ) → s.so_far v ≡ Some d → d < 2 ^ 63
  pub safe : (d : ℕ) (final' so_far' : ℕ → Option ℕ) → Call s v d final' so_far' → Safe g t (called s final' so_far' s.shelf) v d

-- v was visited and its links were followed
pub record Visited (g : Network) (t : Tree) (v : ℕ) (s s' : Core) : Type 0 where
  pub d : ℕ
  pub final : ℕ → Option ℕ
  pub so_far : ℕ → Option ℕ
  pub call : Call s v d final so_far
  pub links : Links g t v d (called s final so_far s.shelf) (length g.rows) s'
