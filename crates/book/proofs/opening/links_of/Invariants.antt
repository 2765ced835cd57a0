use Rattle.std.proofs.Common.{◌≡◌, length, map, take, vec_capacity}
use Rattle.book.specs.Matter.{fresh}
use Rattle.book.proofs.opening.links_of.Given as goal

abbrev pub invariant-loop-row : goal.invariant-loop-row
invariant-loop-row l = (l.links.items ≡ map fresh (take l.row-index l.rows)) × (vec_capacity l.links ≡ length l.rows)
