-- How chains stand: every bucket is a ring through its items. The nodes are the items, then the buckets.
use Rattle.std.specs.Prelude.{◌≡◌, ℕ, ◌+◌, ◌-◌, ◌<◌, cond, List, Some, None, Option, map, nat_lt, slice_index}
use Rattle.shelf.specs.Holds.{Holds, bucket_at}
use Rattle.shelf_chains.specs.declared.chains.Neighbours.{Neighbours}

-- the bucket in whose ring the node k is: that of an item is where it stands, and the node items + b is in the ring of the bucket b
abbrev pub seat_of : Holds → ℕ → Option ℕ
seat_of h k = cond (nat_lt k h.items) (bucket_at h k) (cond (nat_lt k (h.items + h.buckets)) (Some (k - h.items)) None)

-- a step from a node leads to a node of the same ring, and the step back returns
abbrev pub Steps : (ℕ → Option ℕ) → (ℕ → ℕ) → (ℕ → ℕ) → Type 0
Steps seat step back = (k b : ℕ) → seat k ≡ Some b → (seat (step k) ≡ Some b) × (back (step k) ≡ k)

-- from item to item a rank falls, so that every ring comes to its bucket
pub record Ranked (n : ℕ) (seat : ℕ → Option ℕ) (step : ℕ → ℕ) : Type 0 where
  pub rank : ℕ → ℕ
  pub falls : (k b : ℕ) → seat k ≡ Some b → k < n → step k < n → rank (step k) < rank k

-- the next and the previous node of each node
abbrev pub nexts : List Neighbours → List ℕ
nexts ring = map (λ (k : Neighbours). k.next) ring

abbrev pub prevs : List Neighbours → List ℕ
prevs ring = map (λ (k : Neighbours). k.prev) ring

-- what the node k has while it is alone in its ring
abbrev pub lone : ℕ → Neighbours
lone k = record { next = k; prev = k }

-- the node that a list names for the node k
abbrev pub to : List ℕ → ℕ → ℕ
to l k = slice_index l k

-- the items where they stand, and the buckets, stand in rings
pub record Ringed (h : Holds) (next prev : List ℕ) : Type 0 where
  pub ahead : Steps (seat_of h) (to next) (to prev)
  pub behind : Steps (seat_of h) (to prev) (to next)
  pub ranked : Ranked h.items (seat_of h) (to next)
