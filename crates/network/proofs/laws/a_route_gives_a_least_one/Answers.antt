use Rattle.std.proofs.Common.{refl}
use Rattle.network.proofs.Search.{least_of, told}
use Rattle.network.proofs.laws.a_route_gives_a_least_one.Goals as goal

pub returns : goal.returns
returns c g =
    record {
      exists = λ a b ks proper p. least_of proper (record { links = ks; route = p; total = refl });
      either = λ a b proper. told proper a b;
      not_both = λ a b d n r. n r.links r.route;
    }
