use Rattle.book.specs.Calls.{AllSound, AllBounded}
use Rattle.book.proofs.opening.check_rows.Given as goal

abbrev pub invariant-loop-row : goal.invariant-loop-row
invariant-loop-row l = AllSound l.stations l.rows l.row-index × AllBounded l.rows l.row-index
