-- The bytes of a sheet, by what they are to its reader.
use Rattle.std.specs.Prelude.{◌≡◌, ℕ, ◌+◌, ◌<◌, ◌≤◌, ◌≢◌}
use Rattle.word.specs.declared.byte.Kind.{Kind}
use Rattle.word.specs.declared.byte.Kind.TheVariants.{Separator, LineFeed, Digit, Point, Other}

-- `;`
abbrev pub separator : ℕ
separator = 59

abbrev pub line_feed : ℕ
line_feed = 10

-- `.`
abbrev pub point : ℕ
point = 46

-- `0` to `9`
abbrev pub IsDigit : ℕ → Type 0
IsDigit b = (48 ≤ b) × (b ≤ 57)

-- the byte b is of that kind; a digit d is the byte 48 + d
abbrev pub IsKind : ℕ → Kind → Type 0
IsKind b Separator = b ≡ separator
IsKind b LineFeed = b ≡ line_feed
IsKind b (Digit d) = (b ≡ 48 + d) × (d < 10)
IsKind b Point = b ≡ point
IsKind b Other = (b ≢ separator) × (b ≢ line_feed) × (b ≢ point) × (IsDigit b → ⊥)
