use Rattle.tree.proofs.Five.{five_components}
use Rattle.tree.proofs.laws.five_stations_have_this_tree.Goals as goal

pub returns : goal.returns
returns c = five_components
