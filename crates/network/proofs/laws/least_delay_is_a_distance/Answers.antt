use Rattle.network.proofs.Leasts.{least_one, least_self, attained_zero, least_symmetric, triangle}
use Rattle.network.proofs.laws.least_delay_is_a_distance.Goals as goal

pub returns : goal.returns
returns c g =
    record {
      unique = λ a b x y. least_one;
      self = least_self g;
      positive = λ a b proper h. attained_zero proper h.attained;
      symmetric = λ a b x. least_symmetric;
      triangle = λ a b c x y z. triangle;
    }
