-- The lesser of two delays, either of which may be missing, and the least of a row of them.
use Rattle.std.specs.Prelude.{ℕ, zero, suc, ◌+◌, min, Some, None, Option}

abbrev pub lesser_of : Option ℕ → Option ℕ → Option ℕ
lesser_of None b = b
lesser_of (Some x) None = Some x
lesser_of (Some x) (Some y) = Some (min x y)

-- the least of f at `many` places from `from` on
abbrev pub least_in : (ℕ → Option ℕ) → ℕ → ℕ → Option ℕ
least_in f from zero = None
least_in f from (suc many) = lesser_of (f from) (least_in f (from + 1) many)
