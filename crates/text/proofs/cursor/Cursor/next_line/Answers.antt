use Rattle.std.proofs.Common.{ℕ, ◌+◌, ◌<◌, List, length, sym, refl, subst}
use Rattle.text.specs.Split.{LineAt}
use Rattle.text.specs.Lines.{LineIs}
use Rattle.text.proofs.Pieces.{line_none, line_listed, line_is, line_next}
use Rattle.text.proofs.cursor.Cursor.next_line.Goals as goal

pub returns-then-self-text : goal.returns-then-self-text
returns-then-self-text c = (line_none c.args.self.now.at c.if-self-text.true, refl)

pub invariant_of-self : goal.invariant_of-self
invariant_of-self c =
    let here = c.args.self.now in
    record { at = subst (λ (n : ℕ). LineAt here.source.bytes.now (here.line + 1) n) (sym c.min.ensures) (line_next here.at c.piece_end-end.ensures c.if-self-text.false) }

pub returns : goal.returns
returns c =
    let here = c.args.self.now in
    let some : here.start < length here.source.bytes.now = c.if-self-text.false in (
      line_listed here.at c.piece_end-end.ensures some,
      refl,
      refl,
      subst (λ (bytes : List ℕ). LineIs bytes (here.line + 1) c.args.role c.new.result) (sym (line_is here.at c.piece_end-end.ensures some)) c.new.ensures,
    )
