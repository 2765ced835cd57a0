use Rattle.std.proofs.Common.{◌≡◌, ℕ, ◌<◌, None}
use Rattle.shelf.specs.Holds.{bucket_at, cleared}
use Rattle.shelf_chains.specs.Means.{chains_hold}
use Rattle.shelf_chains.proofs.chains_shelf.ChainsShelf.clear.Given as goal

abbrev pub invariant-loop-item : goal.invariant-loop-item
invariant-loop-item l =
    (cleared (chains_hold l.self) ≡ cleared (chains_hold l.initial.self))
    × ((k : ℕ) → k < l.item → bucket_at (chains_hold l.self) k ≡ None)
