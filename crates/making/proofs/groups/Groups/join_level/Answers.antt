use Rattle.std.proofs.Common.{rules, sym, refl, ◌∙◌}
use Rattle.making.proofs.Fitting.{rows_listed, stands, in_told}
use Rattle.making.proofs.Linking.{level_begins, level_done}
use Rattle.making.proofs.Looking.{sound_row, sums_fit, look_withdrawn, look_other, look_joins, linked_before}
use Rattle.making.proofs.groups.Groups.join_level.Goals as goal
use Rattle.making.proofs.groups.Groups.join_level.Goals.{then-eq+then-level-done, else-eq, else-eq-via-then-eq+else-level-done, else-eq-via-else-eq}

pub loop-entry-init : goal.loop-entry-init
loop-entry-init c = record { grown = level_begins c.requires.grown; before = λ u. refl }

pub join_link-requires-clause-fits : goal.join_link-requires-clause-fits
join_link-requires-clause-fits c =
    sums_fit c.loop-entry.invariant.grown (stands c.args.scheme.now c.loop-entry.entry-index _ c.loop-entry-test.true (search rules))

pub loop-entry-preserved : goal.loop-entry-preserved
loop-entry-preserved c =
    let i = c.loop-entry.invariant in
    let at = stands c.args.scheme.now c.loop-entry.entry-index _ c.loop-entry-test.true (search rules) in
    let told = sym (in_told _) ∙ sym c.eq.ensures in
    elim c.if-eq.branch [
      | then-eq+then-level-done w ↦ rw w.self-is (record {
        grown = look_joins i.grown at w.level.result (told ∙ w.if-eq.true) (w.level.ensures.delay (sound_row i.grown at).2) w.if-level-done.true w.join_link.ensures;
        before = λ u. linked_before w.join_link.ensures u ∙ i.before u;
      })
      | else-eq w ↦ rw w.self-is (record {
        grown = elim w.else-eq.branch [
          | else-eq-via-then-eq+else-level-done v ↦ look_other i.grown at v.level.result (v.level.ensures.delay (sound_row i.grown at).2) v.if-level-done.false
          | else-eq-via-else-eq v ↦ look_withdrawn i.grown at (told ∙ v.if-eq.false)
        ];
        before = i.before;
      })
    ]

pub returns-clause-grown : goal.returns-clause-grown
returns-clause-grown c = level_done c.loop-entry.entry-index (rows_listed c.args.scheme.now c.loop-entry-test.false (search rules)) c.loop-entry.invariant.grown
