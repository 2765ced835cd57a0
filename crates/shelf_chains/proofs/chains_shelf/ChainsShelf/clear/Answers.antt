use Rattle.std.proofs.Common.{ap, ◌∙◌, arith}
use Rattle.shelf.specs.Holds.{Holds}
use Rattle.shelf_chains.proofs.Held.{emptied, swept}
use Rattle.shelf_chains.proofs.chains_shelf.ChainsShelf.clear.Goals as goal

pub invariant_of-self-clause-ringed : goal.invariant_of-self-clause-ringed
invariant_of-self-clause-ringed c =
    let items = ap (λ (h : Holds). h.items) c.loop-item.invariant.0 in
    emptied c.loop-item.self c.forget_puts.new.self c.forget_puts.ensures (λ k lt. c.loop-item.invariant.1 k (omega arith))

pub returns : goal.returns
returns c =
    let items = ap (λ (h : Holds). h.items) c.loop-item.invariant.0 in
    c.forget_puts.ensures ∙ swept c.loop-item.self (λ k lt. c.loop-item.invariant.1 k (omega arith)) ∙ c.loop-item.invariant.0
