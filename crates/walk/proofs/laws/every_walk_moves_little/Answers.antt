use Rattle.walk.proofs.Moves.{moves_little}
use Rattle.walk.proofs.laws.every_walk_moves_little.Goals as goal

pub returns : goal.returns
returns c = moves_little
