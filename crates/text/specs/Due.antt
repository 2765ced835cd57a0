-- Lines that are due at their place in a sheet.
use Rattle.std.specs.Prelude.{◌≡◌, ℕ, ◌+◌, ◌<◌, ◌≤◌, List, [], length, slice_index_or}
use Rattle.text.specs.Split.{lines}
use Rattle.word.specs.declared.fault.Fault.{Fault}
use Rattle.word.specs.declared.fault.Cause.{Cause}
use Rattle.word.specs.declared.fault.Cause.TheVariants.{InTable}
use Rattle.word.specs.declared.fault.TableFault.TheVariants.{LineDue, TooManyLines}

-- the line i of a text, the first being 0
abbrev pub line : List ℕ → ℕ → List ℕ
line text i = slice_index_or (lines text) i []

-- the line i is there, and is not empty
pub record Stands (text : List ℕ) (i : ℕ) : Type 0 where
  pub listed : i < length (lines text)
  pub some : 0 < length (line text i)

-- the line i is there, and is empty
pub record Empty (text : List ℕ) (i : ℕ) : Type 0 where
  pub listed : i < length (lines text)
  pub nothing : line text i ≡ []

-- the fault of the line i where a line is due that is not empty: the text ends, or the line is empty, or it is wrong
pub data DueFault (text : List ℕ) (i : ℕ) (wrong : List ℕ → Cause → ℕ → Type 0) (cause : Cause) (column : ℕ) : Type 0 where
  missing : length (lines text) ≤ i → cause ≡ InTable LineDue → column ≡ 1 → DueFault text i wrong cause column
  empty : Empty text i → cause ≡ InTable LineDue → column ≡ 1 → DueFault text i wrong cause column
  faulty : Stands text i → wrong (line text i) cause column → DueFault text i wrong cause column

-- the fault of the line i where an empty one is due: the text ends, or there is a line too many before it
pub data DividerFault (text : List ℕ) (i : ℕ) (cause : Cause) (column : ℕ) : Type 0 where
  missing : length (lines text) ≤ i → cause ≡ InTable LineDue → column ≡ 1 → DividerFault text i cause column
  more : Stands text i → cause ≡ InTable TooManyLines → column ≡ 1 → DividerFault text i cause column

-- nothing more is wrong with a line
abbrev pub Never : List ℕ → Cause → ℕ → Type 0
Never line cause column = ⊥

-- the fault is at the line i, and such
abbrev pub AtLine : ℕ → Fault → (Cause → ℕ → Type 0) → Type 0
AtLine i f such = (f.line ≡ i + 1) × such f.cause f.column
