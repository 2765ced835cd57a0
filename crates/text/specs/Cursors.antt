-- The line that comes next.
use Rattle.std.specs.Prelude.{◌≡◌, ℕ, ◌+◌, List}
use Rattle.text.specs.Due.{line, Stands, Empty, DueFault, AtLine}
use Rattle.text.specs.declared.content.Content.{Content}
use Rattle.text.specs.declared.cursor.Cursor.{Cursor}
use Rattle.word.specs.declared.fault.Fault.{Fault}
use Rattle.word.specs.declared.fault.Cause.{Cause}
use Rattle.word.specs.declared.fault.Cause.TheVariants.{InTable}
use Rattle.word.specs.declared.fault.TableFault.TheVariants.{LineDue}

-- the text that is read
abbrev pub text_of : Cursor → List ℕ
text_of c = c.source.bytes.now

-- the bytes of the next line
abbrev pub next : Cursor → List ℕ
next c = line (text_of c) c.line

-- the next line is there, and is not empty
abbrev pub NextStands : Cursor → Type 0
NextStands c = Stands (text_of c) c.line

-- these are the bytes and the number of the next line, which is there and is not empty
pub record IsNext (c : Cursor) (content : Content) : Type 0 where
  pub stands : NextStands c
  pub bytes : content.bytes.now ≡ next c
  pub number : content.number ≡ c.line + 1

-- the cursor lies one line further
pub record Moved (was now : Cursor) : Type 0 where
  pub line : now.line ≡ was.line + 1
  pub source : now.source ≡ was.source

-- the next line is there, and is empty, where another one is due
pub record NoneDue (c : Cursor) (f : Fault) : Type 0 where
  pub empty : Empty (text_of c) c.line
  pub cause : f.cause ≡ InTable LineDue
  pub line : f.line ≡ c.line + 1
  pub column : f.column ≡ 1

-- the fault of the next line where one is due that is not empty
abbrev pub NextFault : Cursor → (List ℕ → Cause → ℕ → Type 0) → Fault → Type 0
NextFault c wrong f = AtLine c.line f (DueFault (text_of c) c.line wrong)
