-- A network of five stations, and its component tree.
use Rattle.std.specs.Prelude.{ℕ, true, false, [], ◌∷◌, Some, None, slice_index, slice_index_or}
use Rattle.network.specs.declared.row.Row.{Row}
use Rattle.network.specs.Network.{Network}
use Rattle.tree.specs.Tree.{Tree}

abbrev pub link : ℕ → ℕ → ℕ → Row
link a b ns = record { from = a; to = b; ns = ns }

-- all links but the last are in service
abbrev pub five : Network
five =
    record {
      stations = 5;
      rows = link 0 1 3 ∷ link 1 2 4 ∷ link 0 2 9 ∷ link 2 3 16 ∷ link 1 3 20 ∷ link 2 4 8 ∷ [];
      service = true ∷ true ∷ true ∷ true ∷ true ∷ false ∷ [];
    }

-- the inner nodes are 5 {0, 1}, 6 {0, 1, 2} and 7 {0, 1, 2, 3}
abbrev pub five_tree : Tree
five_tree =
    record {
      stations = 5;
      nodes = 8;
      parent = λ x. slice_index_or (Some 5 ∷ Some 5 ∷ Some 6 ∷ Some 7 ∷ None ∷ Some 6 ∷ Some 7 ∷ None ∷ []) x None;
      children = λ x. slice_index_or ([] ∷ [] ∷ [] ∷ [] ∷ [] ∷ (0 ∷ 1 ∷ []) ∷ (5 ∷ 2 ∷ []) ∷ (6 ∷ 3 ∷ []) ∷ []) x [];
      level = λ x. slice_index (0 ∷ 0 ∷ 0 ∷ 0 ∷ 0 ∷ 2 ∷ 3 ∷ 5 ∷ []) x;
      lowest = λ x. slice_index (0 ∷ 1 ∷ 2 ∷ 3 ∷ 4 ∷ 0 ∷ 0 ∷ 0 ∷ []) x;
      spread = λ x. slice_index (0 ∷ 0 ∷ 0 ∷ 0 ∷ 0 ∷ 3 ∷ 7 ∷ 23 ∷ []) x;
      buckets = λ x. slice_index (0 ∷ 0 ∷ 0 ∷ 0 ∷ 0 ∷ 3 ∷ 3 ∷ 3 ∷ []) x;
      first = λ x. slice_index (0 ∷ 0 ∷ 0 ∷ 0 ∷ 0 ∷ 0 ∷ 3 ∷ 6 ∷ []) x;
      place = λ u. slice_index (0 ∷ 1 ∷ 2 ∷ 3 ∷ 4 ∷ []) u;
      low = λ x. slice_index (0 ∷ 1 ∷ 2 ∷ 3 ∷ 4 ∷ 0 ∷ 0 ∷ 0 ∷ []) x;
      high = λ x. slice_index (0 ∷ 1 ∷ 2 ∷ 3 ∷ 4 ∷ 1 ∷ 2 ∷ 3 ∷ []) x;
    }
