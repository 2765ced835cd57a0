use Rattle.std.proofs.Common.{◌≡◌, ℕ, List, true, ◌∙◌, subst}
use Rattle.std.proofs.lemmas.Option.{MatchOption-at_some}
use Rattle.std.proofs.lemmas.Result.{err_from_is_err_and}
use Rattle.text.specs.Sheet.{WrongRow, wrong}
use Rattle.text.proofs.cursor.Cursor.next_row.Goals as goal

pub returns-in_err-link : goal.returns-in_err-link
returns-in_err-link c =
    let p = err_from_is_err_and c.from_residual-in_err-link.result c.from_residual-in_err-link.ensures.1 in
    let fault = c.in_err-link.field-0.0 in
    let told = MatchOption-at_some _ _ c.in-Some.line c.in-Some.is c.in_ok-line.ensures in
    let found = c.in_err-link.ensures in
    let bad = subst (λ (bytes : List ℕ). WrongRow c.args.places.places (c.args.full ≡ true) bytes fault.cause fault.column) told.0.bytes found.1 in
    rw (p.1, p.2) (found.0 ∙ told.0.number, wrong told.0.stands bad)
