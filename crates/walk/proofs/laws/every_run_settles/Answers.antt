use Rattle.walk.proofs.Settle.{settles}
use Rattle.walk.proofs.laws.every_run_settles.Goals as goal

pub returns : goal.returns
returns c = settles
