use Rattle.walk.proofs.Handover.{is_able}
use Rattle.walk.proofs.laws.every_walk_is_able.Goals as goal

pub returns : goal.returns
returns c = is_able
