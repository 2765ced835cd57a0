use Rattle.suffices.proofs.Passing.{Passing}
use Rattle.suffices.proofs.passed.put_all.Given as goal

abbrev pub invariant-loop-item : goal.invariant-loop-item
invariant-loop-item g l = Passing (g.S.Shelf.meaning l.initial.shelf) (g.S.Shelf.meaning l.shelf) l.bucket l.item-index l.items
