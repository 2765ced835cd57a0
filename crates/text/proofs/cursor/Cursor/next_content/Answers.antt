use Rattle.std.proofs.Common.{List, ℕ, length, ap, arith, Bor}
use Rattle.text.proofs.Shown.{shown_short}
use Rattle.text.proofs.cursor.Cursor.next_content.Goals as goal
use Rattle.text.proofs.cursor.Cursor.next_content.Goals.{in-Names, in-Names-2}

pub invariant_of-result : goal.invariant_of-result
invariant_of-result c =
    let here = c.args.self.now in
    let told = rw c.in-Some.is at c.next_line.ensures in
    record {
      short = elim c.in-Names-1.branch [
        | in-Names w ↦ omega (arith, shown_short here.source.bytes.now here.line _ _ _ _ told.3 w.in-Names.is, ap (λ (b : Bor (List ℕ)). length b.now) w.bytes-is, here.source.short)
        | in-Names-2 w ↦ omega (arith, shown_short here.source.bytes.now here.line _ _ _ _ told.3 w.in-Names.is, ap (λ (b : Bor (List ℕ)). length b.now) w.bytes-is, here.source.short)
      ];
    }
