-- Walkers before and after.
use Rattle.std.proofs.Common.{◌≡◌, ℕ, ◌<◌, length, get_or, None, vec_items, refl, sym, ap, ◌∙◌, subst}
use Rattle.tree.specs.Tree.{Tree}
use Rattle.walk.specs.State.{Shelf, shelved, grown, counted}
use Rattle.network.specs.declared.scheme.Scheme.{Scheme}
use Rattle.map.specs.declared.map.Map.{Map}
use Rattle.map.specs.Means.{tree_of}
use Rattle.shelf.specs.Holds.{Holds}
use Rattle.keeper.specs.Keeps.{Keeps}
use Rattle.shelf.specs.declared.Shelf.{Ghosts as ShelfOf}
use Rattle.keeper.specs.declared.Keeper.{Ghosts as KeeperOf}
use Rattle.settling.specs.declared.trail.Trail.{Trail}
use Rattle.settling.specs.declared.walker.Walker.{Walker}
use Rattle.settling.specs.Means.{final_of, sofar_of, base_of, count_of, shelf_of, core_of, core_at, Kept, OnlyShelf, Opened, Risen}
use Rattle.settling.proofs.Trails.{risen_base}

pub same_rest : {m m' : Map} {w w' : Trail} {k k' : Keeps} (h h' : Holds) → m' ≡ m → w' ≡ w → k' ≡ k
    → core_of (tree_of m') w' h' k' ≡ shelved (core_of (tree_of m) w h k) (shelf_of h')
same_rest h h' same_map same_trail same_keeper =
    λ i. record {
      final = final_of (same_trail i);
      so_far = sofar_of (tree_of (same_map i)) (same_keeper i);
      base = base_of (same_trail i);
      count = count_of (same_trail i);
      shelf = shelf_of h';
    }

module _ {S K : Type 0} {s : ShelfOf S} {k : KeeperOf K} where
  pub shelved_is : (w w' : Walker S K s k) → OnlyShelf w w' → core_at w' ≡ shelved (core_at w) (core_at w').shelf
  shelved_is w w' only = same_rest (s.meaning w.shelf) (s.meaning w'.shelf) only.kept.map only.trail (ap k.meaning only.keeper)

  pub kept_same : (w : Walker S K s k) → Kept w w
  kept_same w = record { scheme = refl; map = refl; settled = refl; nodes = refl; items = refl; buckets = refl; places = refl }

  pub kept_then : {w w₁ w' : Walker S K s k} → Kept w w₁ → Kept w₁ w' → Kept w w'
  kept_then a b =
      record {
        scheme = b.scheme ∙ a.scheme;
        map = b.map ∙ a.map;
        settled = b.settled ∙ a.settled;
        nodes = b.nodes ∙ a.nodes;
        items = b.items ∙ a.items;
        buckets = b.buckets ∙ a.buckets;
        places = b.places ∙ a.places;
      }

  pub only_same : (w : Walker S K s k) → OnlyShelf w w
  only_same w = record { kept = kept_same w; trail = refl; keeper = refl }

  pub only_then : {w w₁ w' : Walker S K s k} → OnlyShelf w w₁ → OnlyShelf w₁ w' → OnlyShelf w w'
  only_then a b = record { kept = kept_then a.kept b.kept; trail = b.trail ∙ a.trail; keeper = b.keeper ∙ a.keeper }

  -- what is said of scheme and map is said of them after, too
  pub kept_on : {w w' : Walker S K s k} → Kept w w' → (P : Scheme → Map → Type 0) → P w.scheme.now w.map.now → P w'.scheme.now w'.map.now
  kept_on {w} {w'} kept P p = subst (λ (m : Map). P w'.scheme.now m) (sym kept.map) (subst (λ (z : Scheme). P z w.map.now) (sym kept.scheme) p)

  pub kept_back : {w w' : Walker S K s k} → Kept w w' → (P : Scheme → Map → Type 0) → P w'.scheme.now w'.map.now → P w.scheme.now w.map.now
  kept_back {w} {w'} kept P p = subst (λ (m : Map). P w.scheme.now m) kept.map (subst (λ (z : Scheme). P z w'.map.now) kept.scheme p)

-- x was opened, and what stands on the shelf is another
pub grown_is : (t : Tree) (w w' : Trail) (k : Keeps) (h : Holds) (h' : Shelf) (x b : ℕ) → Opened w w' x b
    → shelved (core_of t w' h k) h' ≡ grown (core_of t w h k) (base_of w') (count_of w') h'
grown_is t w w' k h h' x b o =
    λ i. record { final = λ u. get_or (vec_items (o.settled i)) u None; so_far = sofar_of t k; base = base_of w'; count = count_of w'; shelf = h' }

-- a counter rose
pub risen_is : (t : Tree) (w w' : Trail) (k : Keeps) (h : Holds) (x : ℕ) → x < length (vec_items w.nodes) → Risen w w' x
    → core_of t w' h k ≡ counted (core_of t w h k) (count_of w')
risen_is t w w' k h x lt r =
    λ i. record {
      final = λ u. get_or (vec_items (r.settled i)) u None;
      so_far = sofar_of t k;
      base = λ y. risen_base w w' x lt r y i;
      count = count_of w';
      shelf = shelf_of h;
    }
