use Rattle.std.proofs.Common.{ℕ, List, ◌+◌, ap, ◌∙◌, subst}
use Rattle.std.proofs.lemmas.Result.{err_from_is_err_and}
use Rattle.text.specs.Split.{words}
use Rattle.text.specs.Columns.{NamesFault, Ordered}
use Rattle.text.specs.Values.{ValuesFault}
use Rattle.text.specs.Due.{line, AtLine, DueFault, Stands}
use Rattle.text.specs.Cursors.{text_of}
use Rattle.text.specs.Sheet.{book_names, book_values, no_state}
use Rattle.text.specs.declared.table.Table.TheVariants.{Book}
use Rattle.text.proofs.Shown.{same_text}
use Rattle.text.proofs.cursor.Cursor.read_book.Goals as goal

pub returns-in_err-places : goal.returns-in_err-places
returns-in_err-places c =
    let p = err_from_is_err_and c.from_residual.result c.from_residual.ensures.1 in
    let fault = c.in_err-places.field-0.0 in
    let text = text_of c.args.self.now in
    rw (p.1, p.2) (book_names (subst (λ (i : ℕ). AtLine i fault (DueFault text i (NamesFault Book))) c.requires c.in_err-places.ensures))

pub returns-in_err-values : goal.returns-in_err-values
returns-in_err-values c =
    let p = err_from_is_err_and c.from_residual-in_err-values.result c.from_residual-in_err-values.ensures.1 in
    let fault = c.in_err-values.field-0.0 in
    let text = text_of c.args.self.now in
    let places = c.in_ok-places.places in
    let told = c.in_ok-places.ensures in
    rw (p.1, p.2) (book_values places
    (subst (λ (i : ℕ). Stands text i) c.requires told.0)
    (subst (λ (i : ℕ). Ordered Book (words (line text i)) places) c.requires told.1)
    (same_text (λ (t : List ℕ) (i : ℕ). AtLine i fault (DueFault t i (ValuesFault 2 no_state))) c.args.self.now c.names_line.new.self told.2.source (told.2.line ∙ ap (λ (i : ℕ). i + 1) c.requires) c.in_err-values.ensures))
