-- A line under the columns of a table: its count of words, and its first fault.
use Rattle.std.specs.Prelude.{◌≡◌, ℕ, ◌+◌, ◌<◌, List, [], length, ◌≢◌, slice_index, slice_index_or}
use Rattle.text.specs.Split.{words, column_of}
use Rattle.text.specs.Tables.{names, width, Named}
use Rattle.text.specs.declared.table.Table.{Table}
use Rattle.word.specs.declared.fault.Cause.{Cause}
use Rattle.word.specs.declared.fault.Cause.TheVariants.{InWord, InLine, InTable, TextTooLong, InBook}
use Rattle.word.specs.declared.fault.WordFault.TheVariants.{Empty, NotANumber, TooLarge, BadState}
use Rattle.word.specs.declared.fault.LineFault.TheVariants.{WordCount, BadName}

-- the line has too few words, which shows behind it, or too many, which shows at the first word too many
pub data Miscounted (columns : ℕ) (line : List ℕ) (cause : Cause) (column : ℕ) : Type 0 where
  too_few : length (words line) < columns → cause ≡ InLine WordCount → column ≡ length line + 1 → Miscounted columns line cause column
  too_many : columns < length (words line) → cause ≡ InLine WordCount → column ≡ column_of (words line) columns → Miscounted columns line cause column

-- the first fault of a line: its count of words, or else its first word that is not good
pub data Faulty (columns : ℕ) (line : List ℕ) (good : ℕ → Type 0) (bad : ℕ → Cause → Type 0) (cause : Cause) (column : ℕ) : Type 0 where
  count : Miscounted columns line cause column → Faulty columns line good bad cause column
  word : (j : ℕ) → length (words line) ≡ columns → j < columns → ((i : ℕ) → i < j → good i) → bad j cause → column ≡ column_of (words line) j
      → Faulty columns line good bad cause column

-- the words are the names of the table's columns, in some order and none twice: the name i is the word `places i`
pub record Ordered (t : Table) (ws : List (List ℕ)) (places : List ℕ) : Type 0 where
  pub count : length ws ≡ width t
  pub once : (i j : ℕ) → i < j → j < width t → slice_index_or ws i [] ≢ slice_index_or ws j []
  pub placed : (i : ℕ) → i < width t → (slice_index places i < width t) × (slice_index_or ws (slice_index places i) [] ≡ slice_index_or (names t) i [])

-- the word j is a name of the table, and no word before it
pub record NewName (t : Table) (ws : List (List ℕ)) (j : ℕ) : Type 0 where
  pub named : Named t (slice_index_or ws j [])
  pub new : (i : ℕ) → i < j → slice_index_or ws i [] ≢ slice_index_or ws j []

-- what is wrong with the word j of a line of names
abbrev pub NameFault : Table → List (List ℕ) → ℕ → Cause → Type 0
NameFault t ws j (InWord Empty) = slice_index_or ws j [] ≡ []
NameFault t ws j (InWord NotANumber) = ⊥
NameFault t ws j (InWord TooLarge) = ⊥
NameFault t ws j (InWord BadState) = ⊥
NameFault t ws j (InLine WordCount) = ⊥
NameFault t ws j (InLine BadName) = (slice_index_or ws j [] ≢ []) × (NewName t ws j → ⊥)
NameFault t ws j (InTable fault) = ⊥
NameFault t ws j TextTooLong = ⊥
NameFault t ws j (InBook fault) = ⊥

-- why the word names no column of the table that has no place yet
abbrev pub NoNewName : Table → List ℕ → List ℕ → Cause → Type 0
NoNewName t places w (InWord Empty) = w ≡ []
NoNewName t places w (InWord NotANumber) = ⊥
NoNewName t places w (InWord TooLarge) = ⊥
NoNewName t places w (InWord BadState) = ⊥
NoNewName t places w (InLine WordCount) = ⊥
NoNewName t places w (InLine BadName) = (w ≢ []) × ((i : ℕ) → i < width t → slice_index_or (names t) i [] ≡ w → slice_index places i < 4)
NoNewName t places w (InTable fault) = ⊥
NoNewName t places w TextTooLong = ⊥
NoNewName t places w (InBook fault) = ⊥

-- the first fault of a line of names
abbrev pub NamesFault : Table → List ℕ → Cause → ℕ → Type 0
NamesFault t line = Faulty (width t) line (NewName t (words line)) (NameFault t (words line))
