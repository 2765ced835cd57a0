use Rattle.std.proofs.Common.{◌≡◌, ℕ, ◌+◌, ◌/◌, ◌<◌, List, length, drop, set, Option, vec_items, ap, ◌∙◌, arith, rules}
use Rattle.std.proofs.lemmas.Grind.{common_steps}
use Rattle.std.proofs.lemmas.List.{drop-set-lt, drop-set-add}
use Rattle.keeper_tree.proofs.Climbs.{mend_climbs}
use Rattle.keeper_tree.proofs.tree.Tree.note.Goals as goal

pub loop-k-init : goal.loop-k-init
loop-k-init c =
    let s = c.args.self.now in
    let e : c.as_mut_slice-nodes.result.now ≡ vec_items s.nodes = search rules in
    record {
      inner = omega arith;
      rest = grind (arith, common_steps);
      kept = ap (λ (l : List (Option ℕ)). drop s.places (set l (s.places + c.args.place) c.args.d)) e ∙ drop-set-add s.places (vec_items s.nodes) c.args.place c.args.d;
    }

pub loop-k-preserved : goal.loop-k-preserved
loop-k-preserved c =
    let n = c.args.self.now.places in
    let j = c.loop-k.k / 2 in
    let nodes = c.loop-k.nodes in
    let inner : j < n = omega arith in
    let long : length nodes ≡ n + n = search rules in
    let low : j < length nodes = omega arith in
    record {
      inner = omega arith;
      rest = mend_climbs n nodes j c.lesser.result (omega arith) low c.lesser.ensures c.loop-k.invariant.rest;
      kept = drop-set-lt n nodes j c.lesser.result inner ∙ c.loop-k.invariant.kept;
    }
