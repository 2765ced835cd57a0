-- What a line that is not empty holds, and what is known of a cursor that has moved.
use Rattle.std.proofs.Common.{◌≡◌, ℕ, ◌+◌, ◌≤◌, List, length, ap, subst, arith, ◌⊎◌, inl, inr, Bor}
use Rattle.text.specs.Lines.{LineIs}
use Rattle.text.specs.Due.{line}
use Rattle.text.specs.declared.line.Line.{Line}
use Rattle.text.specs.declared.line.Line.TheVariants.{Names, Values}
use Rattle.text.specs.declared.line.Role.{Role}
use Rattle.text.specs.Cursors.{text_of}
use Rattle.text.specs.declared.cursor.Cursor.{Cursor}
use Rattle.text.specs.declared.source.Source.{Source}
use Rattle.text.proofs.Pieces.{line_short}

pub shown_short : (text : List ℕ) (i : ℕ) (role : Role) (l : Line) (bytes : Bor (List ℕ)) (number : ℕ) → LineIs (line text i) (i + 1) role l
    → ((column : ℕ) × (l ≡ Names bytes number column)) ⊎ ((column : ℕ) × (l ≡ Values bytes number column)) → length bytes.now ≤ length text
shown_short text i role l bytes number is (inl (k, e)) =
    let told = subst (λ (x : Line). LineIs (line text i) (i + 1) role x) e is in
    omega (arith, ap length told.0, line_short text i)
shown_short text i role l bytes number is (inr (k, e)) =
    let told = subst (λ (x : Line). LineIs (line text i) (i + 1) role x) e is in
    omega (arith, ap length told.0, line_short text i)

-- what is said of the text and the next line of a cursor is said of any cursor over that text
pub same_text : (P : List ℕ → ℕ → Type 0) (was now : Cursor) {i : ℕ} → now.source ≡ was.source → now.line ≡ i → P (text_of now) now.line → P (text_of was) i
same_text P was now source line h = subst (λ (k : ℕ). P (text_of was) k) line (subst (λ (s : Source). P s.bytes.now now.line) source h)
