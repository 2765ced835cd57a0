-- The refusals of a book: for each case its number in the table of causes, what comes back with it, and how it is said.
use Rattle.std.specs.Prelude.{ℕ, Some, None, Option, List, codes}
use Rattle.network.specs.Refusals.{shown, said as row_said}
use Rattle.network.specs.declared.row.Row.{Row}
use Rattle.book.specs.declared.permit.Permit.{Permit}
use Rattle.book.specs.declared.refusal.Refusal.{Refusal}
use Rattle.book.specs.declared.refusal.Refusal.TheVariants.{Stations, TooManyRows, BadRow, NoSuchLink, NotInService, MapStands, NoMap, NothingSettled, NoMemory}
use Rattle.book.specs.declared.refusal.PermitRefusal.{PermitRefusal}
use Rattle.book.specs.declared.refusal.PermitRefusal.TheVariants.{OtherBook, NotOut, StillGood}

-- what a refusal tells: its number, and the row or the permit that comes back, if any
pub record Told : Type 0 where
  pub number : ℕ
  pub row : Option Row
  pub permit : Option Permit

abbrev pub plain : ℕ → Told
plain n = record { number = n; row = None; permit = None }

abbrev pub told : Refusal → Told
told Stations = plain 1
told TooManyRows = plain 2
told (BadRow refusal) = record { number = (shown refusal).number; row = Some (shown refusal).row; permit = None }
told NoSuchLink = plain 6
told NotInService = plain 7
told MapStands = plain 11
told NoMap = plain 12
told NothingSettled = plain 16
told NoMemory = plain 0

-- the permit that a refusal hands back
abbrev pub permit_back : PermitRefusal → Permit
permit_back (OtherBook p) = p
permit_back (NotOut p) = p
permit_back (StillGood p) = p

abbrev pub permit_told : PermitRefusal → Told
permit_told (OtherBook p) = record { number = 8; row = None; permit = Some p }
permit_told (NotOut p) = record { number = 9; row = None; permit = Some p }
permit_told (StillGood p) = record { number = 10; row = None; permit = Some p }

abbrev pub number_of : Refusal → ℕ
number_of e = (told e).number

abbrev pub permit_number : PermitRefusal → ℕ
permit_number e = (permit_told e).number

abbrev pub said : Refusal → List ℕ
said Stations = codes "there are no stations, or more than 512"
said TooManyRows = codes "there are more than 2,048 rows"
said (BadRow refusal) = row_said refusal
said NoSuchLink = codes "the book has no link of that number"
said NotInService = codes "the link is not in service"
said MapStands = codes "the book has its map already"
said NoMap = codes "the book has no map"
said NothingSettled = codes "nothing is settled"
said NoMemory = codes "memory was wanting"
