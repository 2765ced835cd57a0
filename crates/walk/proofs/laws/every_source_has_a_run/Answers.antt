use Rattle.walk.proofs.Finish.{has_a_run}
use Rattle.walk.proofs.laws.every_source_has_a_run.Goals as goal

pub returns : goal.returns
returns c = has_a_run
