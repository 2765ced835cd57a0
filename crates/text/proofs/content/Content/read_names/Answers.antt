use Rattle.std.proofs.Common.{ℕ, List, ◌∙◌, subst, sym, arith}
use Rattle.text.specs.Columns.{NoNewName, word}
use Rattle.text.proofs.Naming.{seen_more, name_fault}
use Rattle.text.proofs.content.Content.read_names.Goals as goal

pub returns-in-Err : goal.returns-in-Err
returns-in-Err c =
    let at = c.loop-j.invariant.1 (omega (arith, c.in_ok-check_count.ensures, c.width.ensures)) in
    let found = subst (λ (w : List ℕ). NoNewName c.args.table c.loop-j.places w c.in-Err.cause) (c.word_from-word.ensures.bytes c.loop-j.j at) c.in-Err.ensures in
    (c.fault.ensures.1, rw (c.fault.ensures.0, c.fault.ensures.2) (word c.loop-j.j (c.in_ok-check_count.ensures ∙ c.width.ensures) (omega arith) c.loop-j.invariant.0.good (name_fault c.loop-j.invariant.0 c.in-Err.cause found) (c.word_from-word.ensures.column ∙ sym at.column)))

pub loop-j-preserved : goal.loop-j-preserved
loop-j-preserved c =
    let at = c.loop-j.invariant.1 (omega (arith, c.in_ok-check_count.ensures, c.width.ensures)) in
    let told = c.in-Ok.ensures in
    (seen_more c.loop-j.invariant.0 told.0 (told.1 ∙ c.word_from-word.ensures.bytes c.loop-j.j at) told.2 (omega arith), c.word_from-word.ensures.next c.loop-j.j at)
