-- The tree that a map stands for.
use Rattle.std.specs.Prelude.{ℕ, zero, suc, List, [], ◌∷◌, vec_items, vec_len, slice_index}
use Rattle.tree.specs.Tree.{Tree}
use Rattle.map.specs.declared.map.Map.{Map}
use Rattle.map.specs.Nodes.{nth}

-- n numbers of the list, from its place i on
abbrev pub part : List ℕ → ℕ → ℕ → List ℕ
part l i zero = []
part l i (suc n) = slice_index l i ∷ part l (suc i) n

abbrev pub tree_of : Map → Tree
tree_of m = record {
  stations = vec_len m.place;
  nodes = vec_len m.nodes;
  parent = λ x. (nth (vec_items m.nodes) x).parent;
  children = λ x. part (vec_items m.children) (nth (vec_items m.nodes) x).from (nth (vec_items m.nodes) x).many;
  level = λ x. (nth (vec_items m.nodes) x).level;
  lowest = λ x. (nth (vec_items m.nodes) x).lowest;
  spread = λ x. (nth (vec_items m.nodes) x).spread;
  buckets = λ x. (nth (vec_items m.nodes) x).buckets;
  first = λ x. (nth (vec_items m.nodes) x).first;
  place = λ u. slice_index (vec_items m.place) u;
  low = λ x. (nth (vec_items m.nodes) x).low;
  high = λ x. (nth (vec_items m.nodes) x).high;
}
