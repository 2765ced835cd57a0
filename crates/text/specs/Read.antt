-- What reading a sheet into lent memory answers.
use Rattle.std.specs.Prelude.{◌≡◌, ℕ, ◌+◌, ◌<◌, ◌≤◌, List, length, MatchResult}
use Rattle.text.specs.Split.{lines}
use Rattle.text.specs.Due.{AtLine}
use Rattle.text.specs.Sheet.{Headed, HeadingFault, Rows, RowsRead, RowFault, longest, room}
use Rattle.text.specs.Opening.{FairNumber, AllSound, BookRefused}
use Rattle.text.specs.declared.sheet.Head.{Head}
use Rattle.text.specs.declared.sheet.SheetLink.{SheetLink}
use Rattle.text.specs.declared.sheet.Reading.{Reading}
use Rattle.word.specs.declared.fault.Fault.{Fault}
use Rattle.word.specs.declared.fault.Cause.TheVariants.{TextTooLong}

-- the text is a sheet with this head and the first n of these links, its names standing in these places
pub record Spelled (text book_places places : List ℕ) (head : Head) (links : List SheetLink) (n : ℕ) : Type 0 where
  pub short : length text ≤ longest
  pub headed : Headed text book_places places head
  pub rows : Rows text places links n
  pub end : length (lines text) ≡ 4 + n

-- the text is a sheet, and the book takes it
pub record Accepted (text : List ℕ) (head : Head) (links : List SheetLink) (n : ℕ) : Type 0 where
  pub book_places : List ℕ
  pub places : List ℕ
  pub spelled : Spelled text book_places places head links n
  pub fair : FairNumber head.stations
  pub sound : AllSound head.stations links n

-- the first fault of the text: its length comes first, then its first line at fault, and last the book
pub data SheetFault (text : List ℕ) (limit : ℕ) (links : List SheetLink) (n : ℕ) (f : Fault) : Type 0 where
  too_long : longest < length text → n ≡ 0 → f.cause ≡ TextTooLong → f.line ≡ 0 → f.column ≡ 0 → SheetFault text limit links n f
  heading : length text ≤ longest → n ≡ 0 → HeadingFault text f → SheetFault text limit links n f
  row : length text ≤ longest → (book_places places : List ℕ) (head : Head) → Headed text book_places places head → Rows text places links n
      → AtLine (4 + n) f (RowFault text places (limit ≤ n) (4 + n)) → SheetFault text limit links n f
  book : (book_places places : List ℕ) (head : Head) → Spelled text book_places places head links n
      → BookRefused text book_places places head.stations links n f → SheetFault text limit links n f

-- the answer to a text, and the memory before and after: the links that were read stand at its start, and the rest of it stays
pub record ReadAs (text : List ℕ) (was now : List SheetLink) (r : Reading) : Type 0 where
  pub places : List ℕ
  pub memory : RowsRead text places was now r.links
  pub outcome : MatchResult r.outcome (λ head. Accepted text head now r.links) (λ f. SheetFault text (room was) now r.links f)
