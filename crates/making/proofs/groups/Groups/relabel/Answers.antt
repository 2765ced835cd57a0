use Rattle.std.proofs.Common.{get_or, set, sym, ap, ◌∙◌, arith}
use Rattle.std.proofs.lemmas.List.{get_or_default}
use Rattle.std.proofs.lemmas.List.Edits.{map_over_more}
use Rattle.making.specs.Members.{alone, relabelled}
use Rattle.making.proofs.Merging.{relabelled_hit, relabelled_miss}
use Rattle.making.proofs.groups.Groups.relabel.Goals as goal
use Rattle.making.proofs.groups.Groups.relabel.Goals.{then-member-hi, else-member-hi}

pub loop-member-preserved : goal.loop-member-preserved
loop-member-preserved c =
    let l = c.loop-member in
    let x = get_or l.member-items l.member-index (alone 0) in
    let on = map_over_more (relabelled c.args.hi c.args.lo) c.deref_mut-member-items.result.now l.member-items l.member-index x (omega arith) l.invariant
    (get_or_default l.member-items l.member-index _ _ (omega arith)) in
    elim c.if-member-hi.branch [
      | then-member-hi w ↦ w.member-items-is ∙ ap (set l.member-items l.member-index) (sym (relabelled_hit c.args.hi c.args.lo x w.if-member-hi.true)) ∙ on
      | else-member-hi w ↦ w.member-items-is ∙ ap (set l.member-items l.member-index) (sym (relabelled_miss c.args.hi c.args.lo x w.if-member-hi.false)) ∙ on
    ]
