use Rattle.tree.proofs.Holding.{low, holds_in, in_holds, in_node, lowest_least}
use Rattle.tree.proofs.Joints.{node_group, no_lower_group, group_node}
use Rattle.tree.proofs.laws.the_nodes_are_the_groups.Goals as goal

pub returns : goal.returns
returns c = λ g t h.
    record {
      group = node_group h;
      lower = no_lower_group h;
      lowest = λ x n. holds_in h n (low g t x);
      least = λ x u i. lowest_least h (in_node h i) (in_holds h i);
      every = group_node h;
    }
