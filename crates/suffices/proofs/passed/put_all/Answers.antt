use Rattle.std.proofs.Common.{rules}
use Rattle.suffices.proofs.Passing.{begin, pass_cleared, may_put, one_put}
use Rattle.suffices.proofs.passed.put_all.Goals as goal

pub loop-item-init : goal.loop-item-init
loop-item-init g c = begin (g.S.Shelf.meaning c.args.shelf.now) (g.S.Shelf.meaning c.clear.new.self) c.args.bucket c.args.items.now c.clear.ensures

pub returns-then-not-put-clause-refused : goal.returns-then-not-put-clause-refused
returns-then-not-put-clause-refused g c = λ _ may.
    let h = g.S.Shelf.meaning c.clear.new.self in
    let m = g.S.Shelf.meaning c.loop-item.shelf in
    let no = c.put.ensures.refused c.if-not-put.true in
    no.0 (may_put h m c.args.bucket c.loop-item.item-index _ c.args.items.now c.loop-item.invariant c.loop-item-test.true (search rules)
    (pass_cleared (g.S.Shelf.meaning c.args.shelf.now) h c.args.bucket c.args.items.now c.clear.ensures may))

pub loop-item-preserved : goal.loop-item-preserved
loop-item-preserved g c =
    let h = g.S.Shelf.meaning c.clear.new.self in
    let m = g.S.Shelf.meaning c.loop-item.shelf in
    let yes = c.put.ensures.done c.if-not-put.false in
    one_put h m (g.S.Shelf.meaning c.put.new.self) c.args.bucket c.loop-item.item-index _ c.args.items.now
    (g.met.S.Shelf.sized c.loop-item.shelf) c.loop-item.invariant c.loop-item-test.true (search rules) yes.0 yes.1
