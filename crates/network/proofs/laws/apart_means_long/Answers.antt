use Rattle.network.proofs.Levels.{apart}
use Rattle.network.proofs.laws.apart_means_long.Goals as goal

pub returns : goal.returns
returns c g i a b n ks = apart n
