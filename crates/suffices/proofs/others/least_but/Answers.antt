use Rattle.std.proofs.Common.{length, min, arith}
use Rattle.suffices.proofs.Leaving.{least_but}
use Rattle.suffices.proofs.others.least_but.Goals as goal

pub returns : goal.returns
returns g c =
    let f = c.fill.ensures in
    let n = min (length c.args.delays.now) (g.K.Keeper.meaning c.args.keeper.now).places in
    least_but (g.K.Keeper.meaning c.fill.new.keeper) (g.K.Keeper.meaning c.retire.new.self) c.args.delays.now n c.args.out
    (omega (arith, f.fits)) c.retire.ensures f.given f.rest c.least.result c.least.ensures
