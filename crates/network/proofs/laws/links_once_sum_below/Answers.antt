use Rattle.network.proofs.Lists.{once}
use Rattle.network.proofs.Cuts.{tour_of, tour_route, tour_once, least_drawn}
use Rattle.network.proofs.laws.links_once_sum_below.Goals as goal

pub returns : goal.returns
returns c g =
    record {
      once = λ ks ls d i. (once g ks ls d i).0;
      cut = λ a b ks p.
          let t = tour_of p in
          record { links = t.links; route = tour_route t.tour; distinct = tour_once t.tour; inside = t.inside; shorter = t.shorter };
      drawn = λ a b d. least_drawn;
    }
