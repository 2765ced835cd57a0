use Rattle.std.proofs.Common.{ℕ, List, ◌∙◌, get_or, unwrap_or, subst, sym, arith}
use Rattle.text.specs.Columns.{word}
use Rattle.text.specs.Tables.{width}
use Rattle.text.specs.Values.{WrongWord, ValuesFault}
use Rattle.word.specs.declared.fault.Cause.TheVariants.{InWord}
use Rattle.text.proofs.content.Content.read_values.Goals as goal

pub returns-in-Err : goal.returns-in-Err
returns-in-Err c =
    let at = c.loop-j.invariant.1 (omega (arith, c.in_ok-check_count.ensures, c.width.ensures)) in
    let line = c.args.self.now.bytes.now in
    let state = unwrap_or c.state_at-state_at.result 4 in
    let found = subst (λ (w : List ℕ). WrongWord state c.loop-j.j w c.in-Err.fault) (c.word_from-word.ensures.bytes c.loop-j.j at) c.in-Err.ensures in
    let first : ValuesFault (width c.args.table) state line (InWord c.in-Err.fault) c.word_from-word.result.column
    = word c.loop-j.j (c.in_ok-check_count.ensures ∙ c.width.ensures) (omega arith)
    (λ i l. record { n = get_or c.loop-j.values.numbers i 0; s = c.loop-j.values.state; spells = c.loop-j.invariant.0 i l }) found (c.word_from-word.ensures.column ∙ sym at.column)
    in
    (c.fault.ensures.1, rw (c.fault.ensures.0, c.into.ensures, c.fault.ensures.2) (subst (λ (s : ℕ). ValuesFault (width c.args.table) s line (InWord c.in-Err.fault) c.word_from-word.result.column) c.state_at-state_at.ensures first))
