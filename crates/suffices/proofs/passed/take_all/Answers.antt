use Rattle.std.proofs.Common.{◌<◌, length, rules}
use Rattle.suffices.proofs.Passing.{one_take, not_bare, all_taken, all_back}
use Rattle.suffices.proofs.passed.take_all.Goals as goal

pub unreachable-requires : goal.unreachable-requires
unreachable-requires g c =
    not_bare (g.S.Shelf.meaning c.args.shelf.now) (g.S.Shelf.meaning c.loop-item.shelf) c.args.bucket c.loop-item.item-index (length c.args.items.now) c.loop-item.items
    c.loop-item.invariant c.loop-item-test.true c.in_default.ensures.0

pub loop-item-preserved : goal.loop-item-preserved
loop-item-preserved g c =
    let lt : c.loop-item.item-index < length c.loop-item.items = search rules in
    let took = c.in-Some.ensures in
    one_take (g.S.Shelf.meaning c.args.shelf.now) (g.S.Shelf.meaning c.loop-item.shelf) (g.S.Shelf.meaning c.take.new.self) c.args.bucket c.loop-item.item-index
    (length c.args.items.now) c.in-Some.taken c.loop-item.items c.loop-item.invariant lt took.0 took.1

pub returns-clause-bare : goal.returns-clause-bare
returns-clause-bare g c =
    all_taken (g.S.Shelf.meaning c.args.shelf.now) (g.S.Shelf.meaning c.loop-item.shelf) c.args.bucket c.loop-item.item-index (length c.args.items.now) c.loop-item.items
    c.loop-item.invariant c.loop-item-test.false

pub returns-clause-each : goal.returns-clause-each
returns-clause-each g c =
    all_back (g.S.Shelf.meaning c.args.shelf.now) (g.S.Shelf.meaning c.loop-item.shelf) c.args.bucket c.loop-item.item-index (length c.args.items.now) c.loop-item.items
    c.loop-item.invariant c.loop-item-test.false (search rules)
