use Rattle.std.proofs.Common.{◌≤◌, true, false, length, refl, arith}
use Rattle.std.proofs.lemmas.List.{map-id}
use Rattle.std.proofs.lemmas.Simd.{map-map, splat_is_map}
use Rattle.network.specs.Rows.{Sound}
use Rattle.network.specs.declared.row.Row.{Row}
use Rattle.book.proofs.Fresh.{of_each}
use Rattle.book.proofs.book.Book.open.Goals as goal

pub invariant_of-drop-clause-sound : goal.invariant_of-drop-clause-sound
invariant_of-drop-clause-sound c =
    of_each (λ (r : Row). Sound c.args.stations r) c.args.rows.now c.in_ok-links.links c.in_ok-links.ensures c.in_ok-check_rows.ensures.first

pub invariant_of-drop-clause-bounded : goal.invariant_of-drop-clause-bounded
invariant_of-drop-clause-bounded c =
    of_each (λ (r : Row). r.ns ≤ 4294967295) c.args.rows.now c.in_ok-links.links c.in_ok-links.ensures c.in_ok-check_rows.ensures.bounded

pub returns : goal.returns
returns c =
    let rows = c.args.rows.now in (
      (omega arith, omega arith),
      omega arith,
      c.in_ok-check_rows.ensures.first,
      rw (c.in_ok-links.ensures, splat_is_map rows (length rows) true refl, splat_is_map rows (length rows) false refl) (simp (map-map, map-id)),
    )
