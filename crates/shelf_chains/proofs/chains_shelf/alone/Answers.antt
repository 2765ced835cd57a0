use Rattle.std.proofs.Common.{List, ◌++◌, ◌∷◌, [], sym, ap, ◌∙◌, arith, rules}
use Rattle.std.proofs.lemmas.List.FromFn.{map-range_with_len_more}
use Rattle.shelf_chains.specs.Rings.{lone}
use Rattle.shelf_chains.specs.declared.chains.Neighbours.{Neighbours}
use Rattle.shelf_chains.proofs.chains_shelf.alone.Goals as goal

pub loop-k-preserved : goal.loop-k-preserved
loop-k-preserved c =
    let k = c.loop-k.k in (
      c.push_reserved.ensures.items
          ∙ ap (λ (l : List Neighbours). l ++ lone k ∷ []) c.loop-k.invariant.0
          ∙ sym (map-range_with_len_more lone 0 k k (omega arith)),
      search rules,
      search rules,
    )
