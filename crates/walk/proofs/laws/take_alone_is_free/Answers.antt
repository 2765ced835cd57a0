use Rattle.walk.proofs.Free.{take_is_free}
use Rattle.walk.proofs.laws.take_alone_is_free.Goals as goal

pub returns : goal.returns
returns c = take_is_free
