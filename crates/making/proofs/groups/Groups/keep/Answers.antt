use Rattle.std.proofs.Common.{arith}
use Rattle.std.proofs.lemmas.List.{get_or_default}
use Rattle.std.proofs.lemmas.List.Edits.{map_over_more}
use Rattle.making.specs.Members.{kept}
use Rattle.making.proofs.groups.Groups.keep.Goals as goal

pub loop-member-preserved : goal.loop-member-preserved
loop-member-preserved c =
    let l = c.loop-member in
    map_over_more kept c.deref_mut-member-items.result.now l.member-items l.member-index _ (omega arith) l.invariant (get_or_default l.member-items l.member-index _ _ (omega arith))
