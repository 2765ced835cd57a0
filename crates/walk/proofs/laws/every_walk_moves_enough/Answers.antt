use Rattle.walk.proofs.Ledger.{moves_enough}
use Rattle.walk.proofs.laws.every_walk_moves_enough.Goals as goal

pub returns : goal.returns
returns c = moves_enough
