use Rattle.walk.proofs.Ledger.{ends}
use Rattle.walk.proofs.laws.every_walk_ends.Goals as goal

pub returns : goal.returns
returns c = ends
