use Rattle.std.proofs.Common.{◌≡◌, ◌≤◌, Bool, true, false, sym, refl, arith}
use Rattle.std.proofs.lemmas.Bool.{both_ways}
use Rattle.network.proofs.Routes.{hop_stations}
use Rattle.network.proofs.Groups.{group_around, group_nested, group_cut}
use Rattle.network.proofs.laws.stations_fall_into_groups.Goals as goal

-- two tests that each pass if the other does are the same
same_tests : (x y : Bool) → (x ≡ true → y ≡ true) → (y ≡ true → x ≡ true) → x ≡ y
same_tests true y f h = sym (f refl)
same_tests false true f h = h refl
same_tests false false f h = refl

pub returns : goal.returns
returns c g =
    record {
      around = group_around g;
      whole = λ i test p b.
          let a = p.member in
          (λ h. (p.stations b h, p.connected a b p.inhabited h), λ h. p.largest a b p.inhabited h.0 h.1);
      same = λ i a one other p q m n b.
          let l : i ≤ i = omega arith in
          same_tests (one b) (other b) (group_nested l p q m n b) (group_nested l q p n m b);
      nested = λ i j a low high l p q. group_nested l p q;
      cut = λ i k a b test p proper h m n. group_cut p h (hop_stations proper h).1 m (both_ways (test b) n);
    }
