-- What the book says of a sheet that is well written, and where its fault shows.
use Rattle.std.specs.Prelude.{◌≡◌, ℕ, ◌+◌, ◌<◌, ◌≤◌, ◌⊎◌, List, slice_index, slice_index_or}
use Rattle.network.specs.Rows.{Sound, Refused}
use Rattle.network.specs.declared.refusal.RowRefusal.{RowRefusal}
use Rattle.network.specs.declared.refusal.RowRefusal.TheVariants.{EndOutside, EqualEnds, NoDelay}
use Rattle.text.specs.Split.{words, column_of}
use Rattle.text.specs.Due.{line}
use Rattle.text.specs.Sheet.{no_link}
use Rattle.text.specs.declared.sheet.SheetLink.{SheetLink}
use Rattle.word.specs.declared.fault.Fault.{Fault}
use Rattle.word.specs.declared.fault.Cause.TheVariants.{InBook}
use Rattle.word.specs.declared.fault.BookFault.TheVariants.{Stations, Row}

-- a book has 1 to 512 stations
abbrev pub FairNumber : ℕ → Type 0
FairNumber stations = (1 ≤ stations) × (stations ≤ 512)

-- the rows of the first n links describe links
abbrev pub AllSound : ℕ → List SheetLink → ℕ → Type 0
AllSound stations links n = (k : ℕ) → k < n → Sound stations (slice_index_or links k no_link).row

-- the fault shows at the word j of the line i
pub record AtWord (text : List ℕ) (i j : ℕ) (f : Fault) : Type 0 where
  pub number : f.line ≡ i + 1
  pub column : f.column ≡ column_of (words (line text i)) j

-- the word j is the one at fault: of two ends that are no stations the left one, of equal ends `to`, and else the delay
abbrev pub WordAtFault : ℕ → List ℕ → RowRefusal → ℕ → Type 0
WordAtFault stations places (EndOutside r) j =
    ((stations ≤ r.from) × (j ≡ slice_index places 0) × (stations ≤ r.to → slice_index places 0 ≤ slice_index places 1))
    ⊎ ((stations ≤ r.to) × (j ≡ slice_index places 1) × (stations ≤ r.from → slice_index places 1 ≤ slice_index places 0))
WordAtFault stations places (EqualEnds r) j = j ≡ slice_index places 1
WordAtFault stations places (NoDelay r) j = j ≡ slice_index places 2

-- the row of link k is the first that describes no link
pub record RowRefused (text places : List ℕ) (stations : ℕ) (links : List SheetLink) (n : ℕ) (f : Fault) : Type 0 where
  pub k : ℕ
  pub below : k < n
  pub before : AllSound stations links k
  pub why : RowRefusal
  pub refused : Refused stations (slice_index_or links k no_link).row why
  pub cause : f.cause ≡ InBook (Row why)
  pub word : ℕ
  pub at_fault : WordAtFault stations places why word
  pub shown : AtWord text (4 + k) word f

-- the book's fault: the number of stations comes first, then the rows in their order
pub data BookRefused (text book_places places : List ℕ) (stations : ℕ) (links : List SheetLink) (n : ℕ) (f : Fault) : Type 0 where
  unfair : (FairNumber stations → ⊥) → f.cause ≡ InBook Stations → AtWord text 1 (slice_index book_places 1) f → BookRefused text book_places places stations links n f
  row : FairNumber stations → RowRefused text places stations links n f → BookRefused text book_places places stations links n f
