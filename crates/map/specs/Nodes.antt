-- The node of a number in a list of nodes.
use Rattle.std.specs.Prelude.{ℕ, List, None, slice_index_or}
use Rattle.map.specs.declared.node.Node.{Node}

-- what stands past the last node: no parent, no children, and 0 in every number
abbrev pub no_node : Node
no_node = record { parent = None; level = 0; lowest = 0; spread = 0; buckets = 0; first = 0; low = 0; high = 0; from = 0; many = 0 }

abbrev pub nth : List Node → ℕ → Node
nth nodes x = slice_index_or nodes x no_node
