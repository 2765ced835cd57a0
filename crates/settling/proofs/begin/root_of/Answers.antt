use Rattle.std.proofs.Common.{sym}
use Rattle.tree.specs.Tree.{self}
use Rattle.settling.proofs.Fronts.{climb}
use Rattle.settling.proofs.begin.root_of.Goals as goal

pub loop-p-init : goal.loop-p-init
loop-p-init c = self

pub loop-p-preserved : goal.loop-p-preserved
loop-p-preserved c = climb c.loop-p.invariant (sym c.in-Some.ensures)
