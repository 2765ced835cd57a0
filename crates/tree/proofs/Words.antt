-- Small words about options, tests and numbers.
use Rattle.std.proofs.Common.{◌≡◌, ℕ, Some, None, Option, arith}

pub some_none : {A : Type 0} {o : Option A} {a : A} → o ≡ Some a → o ≡ None → ⊥
some_none p q = let z : ◌≡◌ {A = ℕ} 0 1 = cc in omega arith

pub same_some : {a b : ℕ} {o : Option ℕ} → o ≡ Some a → o ≡ Some b → a ≡ b
same_some p q = cc
