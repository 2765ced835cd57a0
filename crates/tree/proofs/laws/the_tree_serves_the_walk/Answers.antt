use Rattle.std.proofs.Common.{arith}
use Rattle.tree.proofs.Counts.{sized}
use Rattle.tree.proofs.Fit.{fits}
use Rattle.tree.proofs.Places.{runs, place_below}
use Rattle.tree.proofs.laws.the_tree_serves_the_walk.Goals as goal

pub returns : goal.returns
returns c = λ g t h. record { fits = fits h; sized = λ n. sized h (omega (arith, h.stations)); runs = runs h; places = λ u s. place_below h s }
