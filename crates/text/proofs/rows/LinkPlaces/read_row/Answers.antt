use Rattle.std.proofs.Common.{◌≡◌, ℕ, arith}
use Rattle.std.proofs.lemmas.Result.{err_from_is_err_and}
use Rattle.text.specs.Sheet.{values}
use Rattle.text.proofs.rows.LinkPlaces.read_row.Goals as goal

pub returns-in_err-values : goal.returns-in_err-values
returns-in_err-values c =
    let p = err_from_is_err_and c.from_residual.result c.from_residual.ensures.1 in
    let found = c.in_err-values.ensures in
    let room = c.if-full.false in
    rw (p.1, p.2) (found.0, values (λ full. let z : ◌≡◌ {A = ℕ} 0 1 = cc in omega arith) found.1)
