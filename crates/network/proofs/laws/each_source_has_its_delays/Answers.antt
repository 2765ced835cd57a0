use Rattle.network.proofs.Settled.{settled_of, settled_one, settled_source}
use Rattle.network.proofs.laws.each_source_has_its_delays.Goals as goal

pub returns : goal.returns
returns c g s = record { exists = λ proper. settled_of proper s; unique = λ one other. settled_one; source = λ delays. settled_source }
