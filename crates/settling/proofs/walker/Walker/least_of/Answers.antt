use Rattle.settling.specs.Means.{tree_at}
use Rattle.settling.proofs.Keepers.{least_means}
use Rattle.settling.proofs.walker.Walker.least_of.Goals as goal

pub returns : goal.returns
returns g c =
    least_means (tree_at c.args.self.now) (g.K.Keeper.meaning c.args.self.now.keeper) c.args.node c.low_of-low.result c.high_of-high.result
    c.requires.tree.runs c.requires.listed c.low_of-low.ensures c.high_of-high.ensures c.least.result c.least.ensures
