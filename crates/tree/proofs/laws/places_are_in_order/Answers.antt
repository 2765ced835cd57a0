use Rattle.tree.proofs.Places.{siblings, roots_order, begins_lowest}
use Rattle.tree.proofs.laws.places_are_in_order.Goals as goal

pub returns : goal.returns
returns c = λ g t h. record { first = begins_lowest h; siblings = siblings h; roots = roots_order h }
