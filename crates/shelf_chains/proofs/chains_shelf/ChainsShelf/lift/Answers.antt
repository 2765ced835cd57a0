use Rattle.std.proofs.Common.{rules}
use Rattle.shelf_chains.proofs.Held.{next_low, prev_low, unlinked}
use Rattle.shelf_chains.proofs.chains_shelf.ChainsShelf.lift.Goals as goal

pub index_mut-requires : goal.index_mut-requires
index_mut-requires c = prev_low c.args.self.now c.args.item c.index.result.now (search rules) c.index.ensures

pub index_mut-requires-2 : goal.index_mut-requires-2
index_mut-requires-2 c = next_low c.args.self.now c.args.item c.index.result.now (search rules) c.index.ensures

pub invariant_of-self-clause-ringed : goal.invariant_of-self-clause-ringed
invariant_of-self-clause-ringed c = unlinked c.args.self.now c.args.item c.index.result.now (search rules) c.index.ensures c.lift.new.self
    c.index_mut.result.now c.index_mut-2.result.now c.lift.ensures c.index_mut.ensures.value c.index_mut-2.ensures.value
