-- What a line of a sheet is.
use Rattle.std.specs.Prelude.{◌≡◌, ℕ, ◌+◌, ◌<◌, ◌≤◌, List, [], length, Some, None, Option, slice_index_or}
use Rattle.text.specs.Split.{lines}
use Rattle.text.specs.declared.line.Line.{Line}
use Rattle.text.specs.declared.line.Line.TheVariants.{Names, Values, Divider}
use Rattle.text.specs.declared.line.Role.{Role}
use Rattle.text.specs.declared.line.Role.TheVariants.{AsNames, AsValues}
use Rattle.text.specs.declared.cursor.Cursor.{Cursor}

-- the line with these bytes and this number, in its role: an empty one divides, whatever its role
abbrev pub LineIs : List ℕ → ℕ → Role → Line → Type 0
LineIs content number role (Names bytes line column) = (bytes.now ≡ content) × (line ≡ number) × (column ≡ 1) × (0 < length content) × (role ≡ AsNames)
LineIs content number role (Values bytes line column) = (bytes.now ≡ content) × (line ≡ number) × (column ≡ 1) × (0 < length content) × (role ≡ AsValues)
LineIs content number role (Divider bytes line column) = (bytes.now ≡ content) × (line ≡ number) × (column ≡ 1) × (content ≡ [])

-- the line that is read next, and the cursor after it; none where no line is left
abbrev pub NextLine : Role → Cursor → Cursor → Option Line → Type 0
NextLine role was now None = (length (lines was.source.bytes.now) ≤ was.line) × (now ≡ was)
NextLine role was now (Some line) =
    (was.line < length (lines was.source.bytes.now)) × (now.source ≡ was.source) × (now.line ≡ was.line + 1)
    × LineIs (slice_index_or (lines was.source.bytes.now) was.line []) (was.line + 1) role line
