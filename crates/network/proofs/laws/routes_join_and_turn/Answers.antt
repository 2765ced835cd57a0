use Rattle.std.proofs.Common.{refl, inl, arith}
use Rattle.network.specs.Network.{here}
use Rattle.network.proofs.Routes.{join, join_sum, turn, turn_sum, link, each_hop}
use Rattle.network.proofs.laws.routes_join_and_turn.Goals as goal

pub returns : goal.returns
returns c g =
    record {
      empty = λ a. here;
      link = λ k l u. link (record { listed = l; up = u; ends = inl (refl, refl) });
      in_service = λ a b ks. each_hop (λ k c d h. (h.listed, h.up));
      join = λ a b c ks ls. join;
      turn = λ a b ks. turn;
      empty_sum = refl;
      link_sum = λ k. omega arith;
      join_sum = join_sum g;
      turn_sum = turn_sum g;
      attained = λ a b d. (λ r. (r.links, r.route, r.total), λ r. record { links = r.0; route = r.1; total = r.2 });
    }
