-- What a tree of stored leasts keeps.
use Rattle.std.specs.Prelude.{drop, vec_items}
use Rattle.keeper.specs.Keeps.{Keeps}
use Rattle.keeper_tree.specs.declared.tree.Tree.{Tree}

abbrev pub tree_keeps : Tree → Keeps
tree_keeps s = record { places = s.places; delays = drop s.places (vec_items s.nodes) }
