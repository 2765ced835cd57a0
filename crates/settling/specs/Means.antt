-- What map, trail, shelf and keeper stand for in the words of the walk.
use Rattle.std.specs.Prelude.{◌≡◌, ℕ, ◌+◌, cond, Some, None, vec_items, vec_len, Option, nat_lt, slice_index_or, slice_set}
use Rattle.network.specs.Network.{Network}
use Rattle.network.specs.Schemes.{network_of}
use Rattle.tree.specs.Tree.{Tree}
use Rattle.walk.specs.State.{Shelf, Core}
use Rattle.map.specs.Means.{tree_of}
use Rattle.shelf.specs.Holds.{Holds, bucket_at}
use Rattle.shelf.specs.declared.Shelf.{Ghosts as ShelfOf}
use Rattle.keeper.specs.declared.Keeper.{Ghosts as KeeperOf}
use Rattle.keeper.specs.Keeps.{Keeps, delay_at}
use Rattle.settling.specs.declared.progress.Progress.{Progress}
use Rattle.settling.specs.declared.trail.Trail.{Trail}
use Rattle.settling.specs.declared.walker.Walker.{Walker}

abbrev pub final_of : Trail → ℕ → Option ℕ
final_of w u = slice_index_or (vec_items w.settled) u None

-- what stands past the last node
abbrev pub no_progress : Progress
no_progress = record { base = None; count = 0 }

abbrev pub progress : Trail → ℕ → Progress
progress w x = slice_index_or (vec_items w.nodes) x no_progress

abbrev pub base_of : Trail → ℕ → Option ℕ
base_of w x = (progress w x).base

abbrev pub count_of : Trail → ℕ → ℕ
count_of w x = (progress w x).count

-- what a keeper knows of a station stands at its place
abbrev pub sofar_of : Tree → Keeps → ℕ → Option ℕ
sofar_of t k u = cond (nat_lt u t.stations) (delay_at k (t.place u)) None

abbrev pub shelf_of : Holds → Shelf
shelf_of h = record { bucket = bucket_at h; puts = h.puts }

abbrev pub core_of : Tree → Trail → Holds → Keeps → Core
core_of t w h k = record { final = final_of w; so_far = sofar_of t k; base = base_of w; count = count_of w; shelf = shelf_of h }

-- the same of a walker: its tree, its network, and the core of its state
abbrev pub tree_at : {S K : Type 0} {s : ShelfOf S} {k : KeeperOf K} → Walker S K s k → Tree
tree_at walker = tree_of walker.map.now

abbrev pub net_at : {S K : Type 0} {s : ShelfOf S} {k : KeeperOf K} → Walker S K s k → Network
net_at walker = network_of walker.scheme.now

abbrev pub core_at : {S K : Type 0} {s : ShelfOf S} {k : KeeperOf K} → Walker S K s k → Core
core_at {s = s} {k = k} walker = core_of (tree_at walker) walker.trail (s.meaning walker.shelf) (k.meaning walker.keeper)

-- a walker has the same scheme and map, and its trail, shelf and keeper are as large as they were
pub record Kept {S K : Type 0} {s : ShelfOf S} {k : KeeperOf K} (walker walker' : Walker S K s k) : Type 0 where
  pub scheme : walker'.scheme.now ≡ walker.scheme.now
  pub map : walker'.map.now ≡ walker.map.now
  pub settled : vec_len walker'.trail.settled ≡ vec_len walker.trail.settled
  pub nodes : vec_len walker'.trail.nodes ≡ vec_len walker.trail.nodes
  pub items : (s.meaning walker'.shelf).items ≡ (s.meaning walker.shelf).items
  pub buckets : (s.meaning walker'.shelf).buckets ≡ (s.meaning walker.shelf).buckets
  pub places : (k.meaning walker'.keeper).places ≡ (k.meaning walker.keeper).places

-- nothing of a walker changed but what stands on its shelf
pub record OnlyShelf {S K : Type 0} {s : ShelfOf S} {k : KeeperOf K} (walker walker' : Walker S K s k) : Type 0 where
  pub kept : Kept walker walker'
  pub trail : walker'.trail ≡ walker.trail
  pub keeper : walker'.keeper ≡ walker.keeper

-- d was made the delay of v
pub record SettledAt (w w' : Trail) (v d : ℕ) : Type 0 where
  pub settled : vec_items w'.settled ≡ slice_set (vec_items w.settled) v (Some d)
  pub nodes : w'.nodes ≡ w.nodes

-- the counter of x rose by one
pub record Risen (w w' : Trail) (x : ℕ) : Type 0 where
  pub nodes : vec_items w'.nodes ≡ slice_set (vec_items w.nodes) x (record { base = base_of w x; count = count_of w x + 1 })
  pub settled : w'.settled ≡ w.settled

-- x was expanded, with the base b
pub record Opened (w w' : Trail) (x b : ℕ) : Type 0 where
  pub nodes : vec_items w'.nodes ≡ slice_set (vec_items w.nodes) x (record { base = Some b; count = b })
  pub settled : w'.settled ≡ w.settled
