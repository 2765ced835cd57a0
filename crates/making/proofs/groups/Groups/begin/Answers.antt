use Rattle.std.proofs.Common.{arith}
use Rattle.making.proofs.Beginning.{begun}
use Rattle.making.proofs.Fitting.{fit_of}
use Rattle.making.proofs.groups.Groups.begin.Goals as goal

pub returns : goal.returns
returns c =
    let i = c.loop-station.invariant in
    begun c.loop-station.self-inside.members.items (fit_of c.args.scheme.now).proper (omega (arith, i.so_many, c.loop-station.self-inside.members.ok.0)) i.each_alone
