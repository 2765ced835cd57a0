-- What a sheet of two tables spells, and where it is first at fault.
use Rattle.std.specs.Prelude.{◌≡◌, ℕ, ◌+◌, ◌<◌, ◌≤◌, min, List, [], length, Result, MatchResult, ⊤, ◌≢◌, slice_index, slice_index_or}
use Rattle.text.specs.Split.{lines, words}
use Rattle.word.specs.Numbers.{ReadsNumber}
use Rattle.word.specs.States.{spelled_state}
use Rattle.text.specs.Columns.{Ordered, NamesFault}
use Rattle.text.specs.Values.{ValuesFault}
use Rattle.text.specs.Due.{line, Stands, Empty, DueFault, DividerFault, AtLine}
use Rattle.text.specs.declared.table.Table.TheVariants.{Book, Links}
use Rattle.text.specs.declared.sheet.Head.{Head}
use Rattle.text.specs.declared.sheet.SheetLink.{SheetLink}
use Rattle.word.specs.declared.state.State.TheVariants.{In}
use Rattle.word.specs.declared.fault.Fault.{Fault}
use Rattle.word.specs.declared.fault.Cause.{Cause}
use Rattle.word.specs.declared.fault.Cause.TheVariants.{InTable}
use Rattle.word.specs.declared.fault.TableFault.TheVariants.{LineDue, TooManyLines}

-- the longest text, in bytes
abbrev pub longest : ℕ
longest = 65536

-- the word under the name i, where the names have these places
abbrev pub under : List ℕ → List (List ℕ) → ℕ → List ℕ
under places ws i = slice_index_or ws (slice_index places i) []

-- the line of values of the first table spells the head
pub record SpelledHead (places : List ℕ) (ws : List (List ℕ)) (head : Head) : Type 0 where
  pub count : length ws ≡ 2
  pub book : ReadsNumber (under places ws 0) head.book
  pub stations : ReadsNumber (under places ws 1) head.stations

-- a line of values of the second table spells the link
pub record SpelledLink (places : List ℕ) (ws : List (List ℕ)) (link : SheetLink) : Type 0 where
  pub count : length ws ≡ 4
  pub from : ReadsNumber (under places ws 0) link.row.from
  pub to : ReadsNumber (under places ws 1) link.row.to
  pub ns : ReadsNumber (under places ws 2) link.row.ns
  pub state : under places ws 3 ≡ spelled_state link.state

-- the places of the four names of the second table: the state stands apart from the numbers
pub record Placed (places : List ℕ) : Type 0 where
  pub low : (i : ℕ) → i < 4 → slice_index places i < 4
  pub apart : (i : ℕ) → i < 3 → slice_index places i ≢ slice_index places 3

-- the first table: a line of names, in any order, and one line of values
pub record BookTable (text places : List ℕ) (head : Head) : Type 0 where
  pub names_line : Stands text 0
  pub names : Ordered Book (words (line text 0)) places
  pub values_line : Stands text 1
  pub values : SpelledHead places (words (line text 1)) head

-- the sheet up to the names of its second table
pub record Headed (text book_places places : List ℕ) (head : Head) : Type 0 where
  pub book : BookTable text book_places head
  pub divider : Empty text 2
  pub names_line : Stands text 3
  pub names : Ordered Links (words (line text 3)) places

-- how many links are read into a memory of this size at the most
abbrev pub room : List SheetLink → ℕ
room memory = min 2048 (length memory)

-- in a list of links, past its end
abbrev pub no_link : SheetLink
no_link = record { row = record { from = 0; to = 0; ns = 0 }; state = In }

-- the first n lines of values of the second table spell the first n of these links
pub record Rows (text places : List ℕ) (links : List SheetLink) (n : ℕ) : Type 0 where
  pub stands : (k : ℕ) → k < n → Stands text (4 + k)
  pub spelled : (k : ℕ) → k < n → SpelledLink places (words (line text (4 + k))) (slice_index_or links k no_link)

-- a state stands at none of the places of the first table
abbrev pub no_state : ℕ
no_state = 4

-- the first fault of a sheet up to the names of its second table
pub data HeadingFault (text : List ℕ) (f : Fault) : Type 0 where
  book_names : AtLine 0 f (DueFault text 0 (NamesFault Book)) → HeadingFault text f
  book_values : (places : List ℕ) → Stands text 0 → Ordered Book (words (line text 0)) places → AtLine 1 f (DueFault text 1 (ValuesFault 2 no_state)) → HeadingFault text f
  divider : (places : List ℕ) (head : Head) → BookTable text places head → AtLine 2 f (DividerFault text 2) → HeadingFault text f
  link_names : (places : List ℕ) (head : Head) → BookTable text places head → Empty text 2 → AtLine 3 f (DueFault text 3 (NamesFault Links)) → HeadingFault text f

-- the fault of a line of links that is not empty: it is one too many, where the table or the memory is full, or it spells no link
pub data WrongRow (places : List ℕ) (full : Type 0) (line : List ℕ) (cause : Cause) (column : ℕ) : Type 0 where
  more : full → cause ≡ InTable TooManyLines → column ≡ 1 → WrongRow places full line cause column
  values : (full → ⊥) → ValuesFault 4 (slice_index places 3) line cause column → WrongRow places full line cause column

-- the fault of the line i of the text where a line of links may stand
pub data RowFault (text places : List ℕ) (full : Type 0) (i : ℕ) (cause : Cause) (column : ℕ) : Type 0 where
  empty : Empty text i → cause ≡ InTable LineDue → column ≡ 1 → RowFault text places full i cause column
  wrong : Stands text i → WrongRow places full (line text i) cause column → RowFault text places full i cause column

-- the first `count` lines of links are read into the memory, and the rest of it stays
pub record RowsRead (text places : List ℕ) (was now : List SheetLink) (count : ℕ) : Type 0 where
  pub rows : Rows text places now count
  pub few : count ≤ room was
  pub same : length now ≡ length was
  pub kept : (k : ℕ) → count ≤ k → slice_index_or now k no_link ≡ slice_index_or was k no_link

-- the lines of links end with the text, or at a fault of the line after those that were read
abbrev pub RowsEnd : List ℕ → List ℕ → List SheetLink → ℕ → Result ⊤ Fault → Type 0
RowsEnd text places was count r = MatchResult r (λ _. length (lines text) ≡ 4 + count) (λ f. AtLine (4 + count) f (RowFault text places (room was ≤ count) (4 + count)))
