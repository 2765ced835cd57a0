use Rattle.std.proofs.Common.{rules, ◌≡◌, ◌-◌, min, length, drop, take, sym, ◌∙◌, arith}
use Rattle.std.specs.List.{reduce}
use Rattle.std.proofs.lemmas.Iterator.{YieldsList-from_slice}
use Rattle.std.proofs.lemmas.Iterator.Adapters.{option_map_id}
use Rattle.std.proofs.lemmas.Iterator.Consumers.{YieldsList-at, YieldsList-from_filter_map, min_from_yields_List}
use Rattle.keeper.specs.Keeps.{delay_at}
use Rattle.keeper.specs.Means.{table_keeps}
use Rattle.keeper.proofs.Leasts.{span, listed, least_answers, least_listed, same_row}
use Rattle.keeper.proofs.table_keeper.TableKeeper.least.Goals as goal

pub returns : goal.returns
returns c =
    let k = table_keeps c.args.self.now in
    let start = c.min-start.result in
    let many = c.min-end.result - start in
    let e : c.min.result ≡ reduce min (listed (take many (drop start k.delays))) =
    sym (option_map_id c.min.result) ∙ min_from_yields_List _ c.min.result c.min.ensures.ran
    (YieldsList-from_filter_map {ys = take many (drop start k.delays)} _ (λ o. o) (YieldsList-at c.filter_map.ensures.source (YieldsList-from_slice _ cc))
    c.filter_map.ensures.closure (λ x r q k. search rules)) in
    let sized : length k.delays ≡ k.places = search rules in
    least_answers k sized c.args.first c.args.last c.min.result
    (e ∙ least_listed k.delays start many (omega arith)
    ∙ same_row (delay_at k) start c.args.first many (span k.places c.args.first c.args.last) (omega arith) (λ lt. omega arith))
