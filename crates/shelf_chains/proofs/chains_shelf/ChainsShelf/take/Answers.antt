use Rattle.std.proofs.Common.{refl, arith, rules}
use Rattle.shelf_chains.proofs.Held.{bare_ring, first_of_ring}
use Rattle.shelf_chains.proofs.chains_shelf.ChainsShelf.take.Goals as goal

pub returns-then-first-items : goal.returns-then-first-items
returns-then-first-items c = (
  bare_ring c.args.self.now c.args.bucket c.head.result c.in_ok-first.field-0.now (search rules) c.head.ensures (search rules) (omega arith),
  refl,
)

pub returns : goal.returns
returns c = (
  first_of_ring c.args.self.now c.args.bucket c.head.result c.in_ok-first.field-0.now (search rules) c.head.ensures (search rules) (omega arith),
  c.lift.ensures,
)
