-- A text is split into lines at line feeds, and a line into words at separators.
use Rattle.std.specs.Prelude.{◌≡◌, ℕ, zero, suc, ◌+◌, ◌<◌, ◌≤◌, cond, List, [], ◌∷◌, length, drop, ◌==◌, ◌≢◌, slice_index}
use Rattle.std.specs.List.{between}
use Rattle.word.specs.Bytes.{separator, line_feed}
use Rattle.text.specs.declared.split.Stop.{Stop}
use Rattle.text.specs.declared.split.Stop.TheVariants.{AtSeparator, AtLineFeed}

-- a byte in front of the first piece
abbrev pub onto : ℕ → List (List ℕ) → List (List ℕ)
onto b [] = (b ∷ []) ∷ []
onto b (p ∷ ps) = (b ∷ p) ∷ ps

-- the pieces of bytes between the stops; `end` are those of no bytes at all
abbrev pub pieces : ℕ → List (List ℕ) → List ℕ → List (List ℕ)
pieces stop end [] = end
pieces stop end (b ∷ bs) = cond (b == stop) ([] ∷ pieces stop end bs) (onto b (pieces stop end bs))

-- the words of a line, one more than it has separators: a line of no bytes is one empty word
abbrev pub words : List ℕ → List (List ℕ)
words = pieces separator ([] ∷ [])

-- the lines of a text: each ends with a line feed, which the last may lack; a text of no bytes has no line
abbrev pub lines : List ℕ → List (List ℕ)
lines = pieces line_feed []

-- the byte that ends a piece
abbrev pub stop_byte : Stop → ℕ
stop_byte AtSeparator = separator
stop_byte AtLineFeed = line_feed

-- the stop is none of these bytes
abbrev pub Free : ℕ → List ℕ → Type 0
Free stop [] = Unit {0}
Free stop (b ∷ bs) = (b ≢ stop) × Free stop bs

-- e is where the piece that begins at `start` ends: at the first stop, or with the bytes
pub record Ends (stop : ℕ) (bytes : List ℕ) (start e : ℕ) : Type 0 where
  pub low : start ≤ e
  pub high : e ≤ length bytes
  pub free : Free stop (between start e bytes)
  pub there : e < length bytes → slice_index bytes e ≡ stop

-- the column of the word j of a line: the place of its first byte, counted from 1
abbrev pub column_of : List (List ℕ) → ℕ → ℕ
column_of ws zero = 1
column_of [] (suc j) = 0
column_of (w ∷ ws) (suc j) = length w + 1 + column_of ws j

-- the word j of the line begins at `start`
pub record WordAt (line : List ℕ) (j start : ℕ) : Type 0 where
  pub within : start ≤ length line
  pub left : words (drop start line) ≡ drop j (words line)
  pub column : column_of (words line) j ≡ start + 1

-- the line i of the text begins at `start`, or the text ends there
pub record LineAt (text : List ℕ) (i start : ℕ) : Type 0 where
  pub within : start ≤ length text
  pub few : i ≤ start
  pub listed : i ≤ length (lines text)
  pub left : lines (drop start text) ≡ drop i (lines text)

-- the pieces that a stop ends
abbrev pub pieces_at : Stop → List ℕ → List (List ℕ)
pieces_at AtSeparator = words
pieces_at AtLineFeed = lines

-- the piece j begins at `start`
abbrev pub PieceAt : Stop → List ℕ → ℕ → ℕ → Type 0
PieceAt AtSeparator = WordAt
PieceAt AtLineFeed = LineAt
