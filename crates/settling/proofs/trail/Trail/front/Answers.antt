use Rattle.std.proofs.Common.{◌≡◌, None, sym, rules}
use Rattle.tree.specs.Tree.{self}
use Rattle.map.specs.Means.{tree_of}
use Rattle.settling.specs.Means.{base_of}
use Rattle.settling.proofs.Fronts.{climb, fronted_up, not_top}
use Rattle.settling.proofs.trail.Trail.front.Goals as goal

pub loop-p-init : goal.loop-p-init
loop-p-init c = (self, c.requires.shut, c.requires.fronted)

pub loop-p-preserved : goal.loop-p-preserved
loop-p-preserved c =
    let up = sym c.in-Some.ensures in
    let shut : base_of c.args.self.now c.in-Some.p ≡ None = search rules in
    (climb c.loop-p.invariant.0 up, shut, fronted_up _ _ _ _ up shut c.loop-p.invariant.2)

pub returns : goal.returns
returns c =
    absurd (not_top (tree_of c.args.map.now) (base_of c.args.self.now) c.loop-p.c (sym c.in_default.ensures) c.loop-p.invariant.2)
