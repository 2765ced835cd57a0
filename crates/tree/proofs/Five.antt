-- The component tree of the five stations.
use Rattle.std.proofs.Common.{◌≡◌, suc, ◌+◌, [], ◌∷◌, refl, arith}
use Rattle.tree.specs.Components.{Components, Laid, rounded_up}
use Rattle.tree.specs.Five.{five, five_tree}
use Rattle.tree.specs.Totals.{total}
use Rattle.tree.specs.Tree.{width}
use Rattle.tree.proofs.FiveGroups.{stations, inner, proper, forms, every, order}
use Rattle.tree.proofs.FiveParents.{parent, root, children, listed, rising, pair, tops}
use Rattle.tree.proofs.FiveLinks.{spread}

pub five_components : Components five five_tree
five_components =
    record {
      proper = proper;
      stations = refl;
      all_stations = omega arith;
      station_level = stations (λ u. five_tree.level u ≡ 0) refl refl refl refl refl;
      station_lowest = stations (λ u. five_tree.lowest u ≡ u) refl refl refl refl refl;
      forms = forms;
      every = every;
      order = order;
      parent = parent;
      root = root;
      children = λ x d. (children x d, listed x d);
      rising = rising;
      roots = 7 ∷ 4 ∷ [];
      tops = tops;
      rising_roots = pair 7 4 (omega arith);
      laid_roots = (refl, (refl, refl));
      laid = inner (λ x. Laid five_tree (five_tree.children x) (five_tree.low x) (suc (five_tree.high x))) (refl, (refl, refl)) (refl, (refl, refl)) (refl, (refl, refl));
      seat_low = stations (λ u. five_tree.low u ≡ five_tree.place u) refl refl refl refl refl;
      seat_high = stations (λ u. five_tree.high u ≡ five_tree.place u) refl refl refl refl refl;
      spread = spread;
      buckets = inner (λ x. five_tree.buckets x ≡ rounded_up (five_tree.spread x) (width five_tree x) + 1) refl refl refl;
      no_buckets = stations (λ u. five_tree.buckets u ≡ 0) refl refl refl refl refl;
      numbered = inner (λ x. five_tree.first x ≡ total five_tree.buckets x) refl refl refl;
    }
