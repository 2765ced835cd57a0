use Rattle.std.proofs.Common.{◌≡◌, ℕ, ◌+◌, length, sym, refl, subst, arith}
use Rattle.std.proofs.lemmas.List.Edits.{length-between}
use Rattle.std.specs.List.{between}
use Rattle.text.specs.Split.{WordAt}
use Rattle.text.proofs.Pieces.{word_is, word_next}
use Rattle.text.proofs.content.Content.word_from.Goals as goal

pub returns : goal.returns
returns c =
    let line = c.args.self.now.bytes.now in
    let start = c.args.start in
    let ends = c.piece_end-end.ensures in
    let long = length-between line start c.piece_end-end.result ends.high in
    let behind : c.piece_end-end.result + 1 ≡ start + (length (between start c.piece_end-end.result line) + 1) = omega (arith, long, ends.low) in
    record {
      within = omega (arith, long, ends.low, ends.high);
      column = refl;
      bytes = λ j at. sym (word_is at ends);
      next = λ j at more. subst (λ (n : ℕ). WordAt line (j + 1) n) behind (word_next at ends more);
    }
