-- One more line of links is read.
use Rattle.std.proofs.Common.{ℕ, List, refl, arith}
use Rattle.text.specs.Sheet.{RowsRead, RowFault, empty, wrong, more, values}
use Rattle.word.specs.declared.fault.Cause.{Cause}
use Rattle.text.specs.declared.sheet.SheetLink.{SheetLink}

pub no_rows : (text places : List ℕ) (memory : List SheetLink) → RowsRead text places memory memory 0
no_rows text places memory =
    record {
      rows = record { stands = λ k h. let z : ⊥ = omega arith in absurd z; spelled = λ k h. let z : ⊥ = omega arith in absurd z };
      few = omega arith;
      same = refl;
      kept = λ k h. refl;
    }

-- another way to say that the memory is full
pub full_as : {text places : List ℕ} {full full' : Type 0} {i : ℕ} {cause : Cause} {column : ℕ} → (full → full') → (full' → full) → RowFault text places full i cause column → RowFault text places full' i cause column
full_as f b (empty e c k) = empty e c k
full_as f b (wrong s (more full c k)) = wrong s (more (f full) c k)
full_as f b (wrong s (values n v)) = wrong s (values (λ x. n (b x)) v)
