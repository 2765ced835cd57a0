-- What the kind of a byte tells.
use Rattle.std.proofs.Common.{◌≡◌, ℕ, refl, arith}
use Rattle.word.specs.Bytes.{IsKind, IsDigit}
use Rattle.word.specs.declared.byte.Kind.{Kind}
use Rattle.word.specs.declared.byte.Kind.TheVariants.{Separator, LineFeed, Digit, Point, Other}

pub no_digit : (b : ℕ) (k : Kind) → IsKind b k → ((d : ℕ) → k ≡ Digit d → ⊥) → IsDigit b → ⊥
no_digit b Separator h n d = omega arith
no_digit b LineFeed h n d = omega arith
no_digit b (Digit x) h n d = n x refl
no_digit b Point h n d = omega arith
no_digit b Other h n d = h.3 d
