-- Visiting a station.
use Rattle.std.proofs.Common.{◌≡◌, ℕ, ◌<◌, List, length, get_or, Some, None, vec_items, Option, sym, ap, ◌∙◌, subst, arith}
use Rattle.tree.specs.Tree.{Tree}
use Rattle.walk.specs.State.{Changed, called}
use Rattle.walk.specs.Rules.{Call}
use Rattle.walk.proofs.Runs.{changed_set}
use Rattle.shelf.specs.Holds.{Holds}
use Rattle.keeper.specs.Keeps.{Keeps, LeastFrom, delay_at}
use Rattle.settling.specs.declared.trail.Trail.{Trail}
use Rattle.settling.specs.Means.{final_of, sofar_of, shelf_of, core_of, no_progress, SettledAt}
use Rattle.settling.proofs.Keepers.{sofar_in}

pub known_at : (t : Tree) (k : Keeps) (u p d : ℕ) → u < t.stations → p ≡ t.place u → LeastFrom k p p d → sofar_of t k u ≡ Some d
known_at t k u p d st e l =
    let s : l.place ≡ t.place u = omega (arith, l.above, l.below) in sofar_in t k u st ∙ ap (delay_at k) (sym s) ∙ l.there

changed_final : (w w' : Trail) (v d : ℕ) → v < length (vec_items w.settled) → SettledAt w w' v d → Changed (final_of w) v (Some d) (final_of w')
changed_final w w' v d lt m =
    subst (λ (l : List (Option ℕ)). Changed (final_of w) v (Some d) (λ u. get_or l u None)) (sym m.settled) (changed_set (vec_items w.settled) v (Some d) None lt)

pub call_of : (t : Tree) (w w' : Trail) (h : Holds) (k k₁ : Keeps) (v d : ℕ) → v < length (vec_items w.settled) → SettledAt w w' v d → sofar_of t k v ≡ Some d
    → Changed (sofar_of t k) v None (sofar_of t k₁) → Call (core_of t w h k) v d (final_of w') (sofar_of t k₁)
call_of t w w' h k k₁ v d lt m known off = record { known = known; final = changed_final w w' v d lt m; so_far = off }

-- base and counter are as they were
pub called_is : (t : Tree) (w w' : Trail) (h : Holds) (k k₁ : Keeps) (v d : ℕ) → SettledAt w w' v d
    → called (core_of t w h k) (final_of w') (sofar_of t k₁) (shelf_of h) ≡ core_of t w' h k₁
called_is t w w' h k k₁ v d m =
    λ i. record {
      final = final_of w';
      so_far = sofar_of t k₁;
      base = λ x. (get_or (vec_items (sym m.nodes i)) x no_progress).base;
      count = λ x. (get_or (vec_items (sym m.nodes i)) x no_progress).count;
      shelf = shelf_of h;
    }
