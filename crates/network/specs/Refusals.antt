-- The refusals of a row: for each case its number, what it hands back, and how it is said.
use Rattle.std.specs.Prelude.{ℕ, List, codes}
use Rattle.network.specs.declared.row.Row.{Row}
use Rattle.network.specs.declared.refusal.RowRefusal.{RowRefusal}
use Rattle.network.specs.declared.refusal.RowRefusal.TheVariants.{EndOutside, EqualEnds, NoDelay}

-- what a caller is told: the number in the table of causes, and the row
pub record Shown : Type 0 where
  pub number : ℕ
  pub row : Row

abbrev pub shown : RowRefusal → Shown
shown (EndOutside r) = record { number = 3; row = r }
shown (EqualEnds r) = record { number = 4; row = r }
shown (NoDelay r) = record { number = 5; row = r }

abbrev pub said : RowRefusal → List ℕ
said (EndOutside r) = codes "an end is no station"
said (EqualEnds r) = codes "both ends are the same station"
said (NoDelay r) = codes "the delay is 0"
