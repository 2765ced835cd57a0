use Rattle.network.proofs.Cuts.{least_few, least_bounded}
use Rattle.network.proofs.laws.least_is_bounded.Goals as goal

pub returns : goal.returns
returns c g =
    record {
      few = λ a b d ks proper. least_few proper;
      bounded = λ a b d proper f n h. least_bounded proper {n = 511} 4294967295 n f h;
    }
