use Rattle.network.proofs.Picked.{picked_one, picked_exists, picked_route, picked_sum, picked_few, picked_lowest}
use Rattle.network.proofs.laws.picked_route_stands.Goals as goal

pub returns : goal.returns
returns c g delays s =
    record {
      unique = λ t ks ls. picked_one;
      exists = λ t d proper settled. picked_exists settled proper t d;
      none = λ t ks settled e p. settled.none t e ks (picked_route p);
      route = λ t d ks settled e p. (picked_route p, picked_sum settled d e p);
      few = λ t d ks proper l settled. picked_few settled proper d l;
      lowest = λ t d k j ks ls settled. picked_lowest settled d k j ks ls;
    }
