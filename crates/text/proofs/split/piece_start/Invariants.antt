use Rattle.text.specs.Split.{PieceAt}
use Rattle.text.proofs.split.piece_start.Given as goal

abbrev pub invariant-loop : goal.invariant-loop
invariant-loop l = PieceAt l.stop l.bytes l.counter l.start
