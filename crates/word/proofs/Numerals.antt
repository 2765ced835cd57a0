-- Digits read from the left: one more digit, and what it does to the number so far.
use Rattle.std.proofs.Common.{add-one, ◌≡◌, ℕ, zero, suc, ◌+◌, ◌-◌, ◌*◌, ◌^◌, ◌<◌, min, List, [], ◌∷◌, ◌++◌, length, get_or, take, sym, ap, ◌∙◌, mul_assoc, pow-suc, arith}
use Rattle.std.proofs.lemmas.List.{length_push, take_more}
use Rattle.word.specs.Bytes.{IsDigit}
use Rattle.word.specs.Numbers.{Digits, value}

pub value_push : (bs : List ℕ) (c : ℕ) → value (bs ++ (c ∷ [])) ≡ value bs * 10 + (c - 48)
value_push [] c = omega arith
value_push (b ∷ bs) c =
    let place : 10 ^ length (bs ++ (c ∷ [])) ≡ 10 ^ length bs * 10 = ap (λ (n : ℕ). 10 ^ n) (length_push bs c ∙ add-one (length bs)) ∙ pow-suc 10 (length bs) in
    let front : (b - 48) * 10 ^ length (bs ++ (c ∷ [])) ≡ (b - 48) * 10 ^ length bs * 10 = ap (λ (n : ℕ). (b - 48) * n) place ∙ sym (mul_assoc (b - 48) (10 ^ length bs) 10) in
    omega (arith, front, value_push bs c)

pub digits_push : (bs : List ℕ) (c : ℕ) → Digits bs → IsDigit c → Digits (bs ++ (c ∷ []))
digits_push [] c h d = (d, tt)
digits_push (b ∷ bs) c h d = (h.0, digits_push bs c h.1 d)

pub digit_at : (bs : List ℕ) (i : ℕ) → Digits bs → i < length bs → IsDigit (get_or bs i 0)
digit_at [] i h l = let z : ⊥ = omega arith in absurd z
digit_at (b ∷ bs) zero h l = h.0
digit_at (b ∷ bs) (suc i) h l = digit_at bs i h.1 (omega arith)

-- the digits up to i and the number that they write after the byte b, capped, give those up to i + 1
pub digits_more : (b : ℕ) (bs : List ℕ) (i n digit r : ℕ) → i < length bs → get_or bs i 0 ≡ 48 + digit → digit < 10
    → Digits (take i bs) × (n ≡ min (value (b ∷ take i bs)) (2 ^ 32)) → r ≡ min (n * 10 + digit) (2 ^ 32)
    → Digits (take (i + 1) bs) × (r ≡ min (value (b ∷ take (i + 1) bs)) (2 ^ 32))
digits_more b bs i n digit r l here low (ds, e) told =
    let more = take_more bs i 0 l in
    rw more (digits_push (take i bs) (get_or bs i 0) ds (omega arith, omega arith), omega (arith, value_push (b ∷ take i bs) (get_or bs i 0)))
