use Rattle.std.proofs.Common.{arith}
use Rattle.making.proofs.Fitting.{fit_of}
use Rattle.making.proofs.Numbering.{stations_numbered}
use Rattle.making.proofs.nodes.Nodes.begin.Goals as goal

pub returns-clause-numbered : goal.returns-clause-numbered
returns-clause-numbered c =
    let l = c.loop-station in
    stations_numbered (fit_of c.args.scheme.now).proper l.self-inside.list.items (omega (arith, l.invariant.so_many, l.self-inside.list.ok.0))
