use Rattle.std.proofs.Common.{◌≡◌, ℕ, ◌+◌, ◌-◌, ◌/◌, List, length, vec_items, vec_len, Option, subst, sym, ap, ◌∙◌, length-drop, arith, rules}
use Rattle.keeper.specs.Lesser.{lesser_of, least_in}
use Rattle.keeper.proofs.Leasts.{span, all_taken, least_answers}
use Rattle.keeper_tree.specs.Means.{tree_keeps}
use Rattle.keeper_tree.specs.Trees.{Over, under}
use Rattle.keeper_tree.proofs.Climbs.{row, climb, shifted}
use Rattle.keeper_tree.proofs.tree_keeper.TreeKeeper.least.Goals as goal

pub loop-low-preserved : goal.loop-low-preserved
loop-low-preserved c =
    let s = c.args.self.now in
    let nodes = c.as_slice-nodes.result.now in
    let f : ℕ → Option ℕ = under nodes in
    let same : nodes ≡ vec_items s.nodes = search rules in
    let over = subst (λ (l : List (Option ℕ)). Over s.places (under l)) (sym same) s.over in
    let best = c.loop-low.best in
    let low = c.loop-low.low in
    let high = c.loop-low.high in
    let lt = c.loop-low-test.true in
    let one = c.loop-low.invariant.0 lt in
    let top = c.loop-low.invariant.1 in
    let taken : c.lesser-best.result ≡ lesser_of best (lesser_of (f low) (f (high - 1))) = cc in
    let half : c.div_ceil-low.result ≡ (low + 1) / 2 = omega (arith, c.div_ceil-low.ensures) in (
      λ _. omega arith,
      omega arith,
      ap (λ (x : ℕ). lesser_of c.lesser-best.result (row f x (high / 2))) half
          ∙ ap (λ (x : Option ℕ). lesser_of x (row f ((low + 1) / 2) (high / 2))) taken ∙ climb s.places f over best low high one lt top ∙ c.loop-low.invariant.2,
    )

pub returns : goal.returns
returns c =
    let s = c.args.self.now in
    let nodes = c.as_slice-nodes.result.now in
    let first = c.args.first in
    let n = s.places in
    let same : nodes ≡ vec_items s.nodes = search rules in
    let long : length (vec_items s.nodes) ≡ vec_len s.nodes = search rules in
    let sized : length (tree_keeps s).delays ≡ n = omega (arith, length-drop n (vec_items s.nodes), s.sized) in
    let e : n + c.min.result - (n + first) ≡ span n first c.args.last = omega (arith, c.min.ensures) in
    least_answers (tree_keeps s) sized first c.args.last c.loop-low.best
    (sym (all_taken (under nodes) c.loop-low.best c.loop-low.low c.loop-low.high c.loop-low-test.false)
    ∙ c.loop-low.invariant.2
    ∙ ap (least_in (under nodes) (n + first)) e
    ∙ ap (λ (l : List (Option ℕ)). least_in (under l) (n + first) (span n first c.args.last)) same
    ∙ sym (shifted n (vec_items s.nodes) first (span n first c.args.last)))
