use Rattle.std.proofs.Common.{rules}
use Rattle.shelf_chains.proofs.Held.{first_within, linked}
use Rattle.shelf_chains.proofs.chains_shelf.ChainsShelf.put.Goals as goal

pub index_mut-requires-3 : goal.index_mut-requires-3
index_mut-requires-3 c = first_within c.args.self.now c.args.bucket c.head-head.result c.index.result.now (search rules) c.head-head.ensures c.index.ensures

pub invariant_of-self-2-clause-ringed : goal.invariant_of-self-2-clause-ringed
invariant_of-self-2-clause-ringed c = linked c.args.self.now c.args.bucket c.head-head.result c.index.result.now (search rules) c.head-head.ensures c.index.ensures
    c.args.item c.put.new.self c.index_mut-2.result.now c.index_mut-3.result.now (search rules) (search rules) (search rules) c.index_mut-2.ensures.value c.index_mut-3.ensures.value
