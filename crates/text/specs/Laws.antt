-- What follows of splitting, and of what a text spells: said the other way round, by joining.
use Rattle.std.specs.Prelude.{◌≡◌, ℕ, ◌<◌, List, [], ◌∷◌, ◌++◌, slice_index_or}
use Rattle.word.specs.Bytes.{separator, line_feed}
use Rattle.text.specs.Split.{words, lines, Free}
use Rattle.text.specs.Sheet.{no_link}
use Rattle.text.specs.Read.{Accepted}
use Rattle.text.specs.declared.sheet.Head.{Head}
use Rattle.text.specs.declared.sheet.SheetLink.{SheetLink}

-- pieces with a stop between any two
abbrev pub joined : ℕ → List (List ℕ) → List ℕ
joined stop [] = []
joined stop (p ∷ []) = p
joined stop (p ∷ q ∷ ps) = p ++ (stop ∷ joined stop (q ∷ ps))

-- pieces with a stop after each
abbrev pub ended : ℕ → List (List ℕ) → List ℕ
ended stop [] = []
ended stop (p ∷ ps) = p ++ (stop ∷ ended stop ps)

-- no piece holds the stop
abbrev pub AllFree : ℕ → List (List ℕ) → Type 0
AllFree stop [] = Unit {0}
AllFree stop (p ∷ ps) = Free stop p × AllFree stop ps

-- the words of a line are the one way to write it as words joined by separators
pub record WordsAreJoined : Type 0 where
  pub joined_again : (line : List ℕ) → joined separator (words line) ≡ line
  pub free : (line : List ℕ) → AllFree separator (words line)
  pub only : (w : List ℕ) (ws : List (List ℕ)) → AllFree separator (w ∷ ws) → words (joined separator (w ∷ ws)) ≡ w ∷ ws

-- the lines of a text: whether the last line feed stands or not, a text of these lines has these lines
pub record LinesAreEnded : Type 0 where
  pub free : (text : List ℕ) → AllFree line_feed (lines text)
  pub only : (ls : List (List ℕ)) → AllFree line_feed ls → lines (ended line_feed ls) ≡ ls
  pub unended : (ls : List (List ℕ)) (b : ℕ) (l : List ℕ) → AllFree line_feed ls → Free line_feed (b ∷ l) → lines (ended line_feed ls ++ (b ∷ l)) ≡ ls ++ ((b ∷ l) ∷ [])

-- a text spells at most one sheet
abbrev pub OneSheet : Type 0
OneSheet =
    (text : List ℕ) (head head' : Head) (links links' : List SheetLink) (n n' : ℕ) → Accepted text head links n → Accepted text head' links' n'
    → (head ≡ head') × (n ≡ n') × ((k : ℕ) → k < n → slice_index_or links k no_link ≡ slice_index_or links' k no_link)
