use Rattle.std.proofs.Common.{◌≡◌, ◌++◌, map, take, drop}
use Rattle.making.specs.Members.{relabelled}
use Rattle.making.proofs.groups.Groups.relabel.Given as goal

abbrev pub invariant-loop-member : goal.invariant-loop-member
invariant-loop-member l =
    l.member-items ≡ map (relabelled l.hi l.lo) (take l.member-index l.initial.member-items) ++ drop l.member-index l.initial.member-items
