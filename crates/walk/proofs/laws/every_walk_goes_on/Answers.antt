use Rattle.walk.proofs.Progress.{goes_on}
use Rattle.walk.proofs.laws.every_walk_goes_on.Goals as goal

pub returns : goal.returns
returns c = goes_on
