use Rattle.std.proofs.Common.{ℕ, List, ◌+◌, ap, ◌∙◌}
use Rattle.std.proofs.lemmas.Result.{err_from_is_err_and}
use Rattle.text.specs.Columns.{NamesFault}
use Rattle.text.specs.Due.{AtLine, DueFault, DividerFault, Empty}
use Rattle.text.specs.Sheet.{divider, link_names}
use Rattle.text.specs.declared.table.Table.TheVariants.{Links}
use Rattle.text.proofs.Shown.{same_text}
use Rattle.text.proofs.cursor.Cursor.read_heading.Goals as goal

pub returns-in_err-divider_line : goal.returns-in_err-divider_line
returns-in_err-divider_line c =
    let p = err_from_is_err_and c.from_residual-in_err-divider_line.result c.from_residual-in_err-divider_line.ensures.1 in
    let fault = c.in_err-divider_line.field-0.0 in
    let book = c.in_ok-head.ensures in
    rw (p.1, p.2) (divider c.in_ok-head.book_places c.in_ok-head.head book.0
    (same_text (λ (t : List ℕ) (i : ℕ). AtLine i fault (DividerFault t i)) c.args.self.now c.read_book.new.self book.2 book.1 c.in_err-divider_line.ensures))

pub returns-in_err-places : goal.returns-in_err-places
returns-in_err-places c =
    let p = err_from_is_err_and c.from_residual-in_err-places.result c.from_residual-in_err-places.ensures.1 in
    let fault = c.in_err-places.field-0.0 in
    let book = c.in_ok-head.ensures in
    let empty = c.in_ok-divider_line.ensures in
    rw (p.1, p.2) (link_names c.in_ok-head.book_places c.in_ok-head.head book.0
    (same_text (λ (t : List ℕ) (i : ℕ). Empty t i) c.args.self.now c.read_book.new.self book.2 book.1 empty.0)
    (same_text (λ (t : List ℕ) (i : ℕ). AtLine i fault (DueFault t i (NamesFault Links))) c.args.self.now c.divider_line.new.self (empty.1.source ∙ book.2) (empty.1.line ∙ ap (λ (i : ℕ). i + 1) book.1) c.in_err-places.ensures))
