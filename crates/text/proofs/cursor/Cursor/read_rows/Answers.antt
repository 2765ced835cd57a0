use Rattle.std.proofs.Common.{◌≡◌, ℕ, List, ◌≤◌, true, eqb, arith, eq-eqb, eqb-true}
use Rattle.std.proofs.lemmas.Result.{err_from_is_err_and}
use Rattle.text.specs.Due.{AtLine}
use Rattle.text.specs.Sheet.{RowFault, room}
use Rattle.text.proofs.Rowing.{full_as}
use Rattle.text.proofs.Shown.{same_text}
use Rattle.text.proofs.cursor.Cursor.read_rows.Goals as goal

pub returns-in_err-link-clause-end : goal.returns-in_err-link-clause-end
returns-in_err-link-clause-end c =
    let p = err_from_is_err_and c.from_residual.result c.from_residual.ensures.1 in
    let fault = c.in_err-link.field-0.0 in
    let told = c.in_err-link.ensures in
    let count = c.loop-link.count in
    let most = c.min-most.result in
    let here = c.loop-link.invariant in
    let found = same_text (λ (t : List ℕ) (i : ℕ). AtLine i fault (RowFault t c.args.places.places (eqb count most ≡ true) i)) c.args.self.now c.loop-link.self here.0 here.1 told in
    let full : eqb count most ≡ true → room c.args.links.now ≤ count = λ t. omega (arith, eqb-true count most t, c.min-most.ensures) in
    let back : room c.args.links.now ≤ count → eqb count most ≡ true = λ h. eq-eqb count most (omega (arith, here.2.few, c.min-most.ensures)) in
    rw (p.1, p.2) (found.0, full_as full back found.1)
