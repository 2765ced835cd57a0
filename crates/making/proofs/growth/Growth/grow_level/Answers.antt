use Rattle.std.proofs.Common.{suc, List, sym, subst}
use mathlib.Core.Path.{fun_ext}
use Rattle.network.specs.Network.{Small}
use Rattle.network.specs.Schemes.{network_of}
use Rattle.tree.proofs.Making.{Labels, labels}
use Rattle.making.specs.declared.groups.Member.{Member}
use Rattle.making.specs.Joins.{Grown}
use Rattle.making.specs.Members.{before_of}
use Rattle.making.proofs.Keeping.{kept_label, kept_grown}
use Rattle.making.proofs.growth.Growth.grow_level.Goals as goal

pub join_level-requires-clause-grown : goal.join_level-requires-clause-grown
join_level-requires-clause-grown c =
    let g = network_of c.args.scheme.now in
    subst (λ (ms : List Member). Grown g (Small g c.args.done) ms) (sym c.keep.ensures) (kept_grown c.args.self.now.groups c.requires.grown)

pub number_level-requires-clause-before : goal.number_level-requires-clause-before
number_level-requires-clause-before c =
    let g = network_of c.args.scheme.now in
    let w = c.requires.grown in
    let kept = subst (λ (ms : List Member). Labels g c.args.done (before_of ms)) (sym c.keep.ensures)
    (subst (Labels g c.args.done) (sym (kept_label c.args.self.now.groups)) (labels {g = g} c.args.done w.grouped w.low w.self)) in
    subst (Labels g c.args.done) (sym (fun_ext c.join_level.ensures.before)) kept

pub number_level-requires-clause-labels : goal.number_level-requires-clause-labels
number_level-requires-clause-labels c =
    let w = c.join_level.ensures.grown in
    labels {g = network_of c.args.scheme.now} (suc c.args.done) w.grouped w.low w.self
