use Rattle.std.proofs.Common.{◌≡◌, map, vec_capacity, vec_len}
use Rattle.std.specs.List.{range_with_len}
use Rattle.shelf_chains.specs.Rings.{lone}
use Rattle.shelf_chains.proofs.chains_shelf.alone.Given as goal

abbrev pub invariant-loop-k : goal.invariant-loop-k
invariant-loop-k l = (l.ring.items ≡ map lone (range_with_len 0 l.k)) × (vec_len l.ring ≡ l.k) × (vec_capacity l.ring ≡ l.nodes)
