use Rattle.std.proofs.Common.{length}
use Rattle.suffices.proofs.Passing.{Taking}
use Rattle.suffices.proofs.passed.take_all.Given as goal

abbrev pub invariant-loop-item : goal.invariant-loop-item
invariant-loop-item g l = Taking (g.S.Shelf.meaning l.initial.shelf) (g.S.Shelf.meaning l.shelf) l.bucket l.item-index (length l.initial.items) l.items
