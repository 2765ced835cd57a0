-- Two words that spell the same number are the same word.
use Rattle.std.proofs.Common.{◌≡◌, ℕ, suc, ◌+◌, ◌-◌, ◌*◌, ◌/◌, ◌%◌, ◌^◌, ◌<◌, ◌≤◌, List, [], ◌∷◌, length, sym, refl, ap, ◌∙◌, mul-le-mul_right, pow-suc, arith}
use native.Mathlib.Nat.{pow-le-pow_right}
use native.Mathlib.Decide.{dec_lt, ℕ_discrete}
use lib.Arith.{digits_lt, digits_div, digits_mod}
use Rattle.word.specs.Numbers.{Digits, Numeral, value}

-- digits write less than the power of ten that comes after them
value_lt : (bs : List ℕ) → Digits bs → value bs < 10 ^ length bs
value_lt [] d = omega arith
value_lt (b ∷ bs) (d, ds) =
    let digit : b - 48 < 10 = omega arith in
    omega (arith, digits_lt {q = b - 48} {m = 10} {r = value bs} {c = 10 ^ length bs} digit (value_lt bs ds), pow-suc 10 (length bs))

-- and a first digit that is not 0 makes at least its own power of ten
value_ge : (b : ℕ) (bs : List ℕ) → 49 ≤ b → 10 ^ length bs ≤ value (b ∷ bs)
value_ge b bs h =
    let one : 1 ≤ b - 48 = omega arith in
    omega (arith, mul-le-mul_right (10 ^ length bs) one)

-- of one length, they are told apart by what they write
same_digits : (xs ys : List ℕ) → Digits xs → Digits ys → length xs ≡ length ys → value xs ≡ value ys → xs ≡ ys
same_digits [] [] d e l v = refl
same_digits [] (y ∷ ys) d e l v = let z : ⊥ = omega arith in absurd z
same_digits (x ∷ xs) [] d e l v = let z : ⊥ = omega arith in absurd z
same_digits (x ∷ xs) (y ∷ ys) (d, ds) (e, es) l v =
    let long : length xs ≡ length ys = omega arith in
    let place : 10 ^ length ys ≡ 10 ^ length xs = ap (λ (n : ℕ). 10 ^ n) (sym long) in
    let low = value_lt xs ds in
    let low' : value ys < 10 ^ length xs = omega (arith, value_lt ys es, place) in
    let both : (x - 48) * 10 ^ length xs + value xs ≡ (y - 48) * 10 ^ length xs + value ys
    = v ∙ ap (λ (p : ℕ). (y - 48) * p + value ys) place
    in
    let first : x - 48 ≡ y - 48
    = sym (digits_div (x - 48) {m = 10 ^ length xs} {r = value xs} low) ∙ (ap (λ (n : ℕ). n / 10 ^ length xs) both ∙ digits_div (y - 48) {m = 10 ^ length xs} {r = value ys} low')
    in
    let rest : value xs ≡ value ys
    = sym (digits_mod (x - 48) {m = 10 ^ length xs} {r = value xs} low) ∙ (ap (λ (n : ℕ). n % 10 ^ length xs) both ∙ digits_mod (y - 48) {m = 10 ^ length xs} {r = value ys} low')
    in
    let tail = same_digits xs ys ds es long rest in
    let head : x ≡ y = omega arith in
    cc

-- a numeral is no longer than another that writes as much
no_longer : (b : ℕ) (bs : List ℕ) (c : ℕ) (cs : List ℕ) → Numeral (b ∷ bs) → Numeral (c ∷ cs) → value (b ∷ bs) ≡ value (c ∷ cs) → length bs ≤ length cs
no_longer b bs c cs (d, ds, z) (e, es, y) v = go (ℕ_discrete b 48) (dec_lt (length cs) (length bs))
  where
    ten : 0 < 10
    ten = omega arith

    go : Dec (b ≡ 48) → Dec (length cs < length bs) → length bs ≤ length cs
    go (yes q) r = omega (arith, ap length (z q))
    go (no q) (no r) = omega arith
    go (no q) (yes r) =
        let big = value_ge b bs (omega arith) in
        let small = value_lt (c ∷ cs) (e, es) in
        let l : suc (length cs) ≤ length bs = omega arith in
        let impossible : ⊥ = omega (arith, pow-le-pow_right {n = 10} ten l) in
        absurd impossible

pub one_spelling : (v w : List ℕ) → Numeral v → Numeral w → value v ≡ value w → v ≡ w
one_spelling [] w n m e = absurd n
one_spelling (b ∷ bs) [] n m e = absurd m
one_spelling (b ∷ bs) (c ∷ cs) n m e =
    same_digits (b ∷ bs) (c ∷ cs) (n.0, n.1) (m.0, m.1)
    (omega (arith, no_longer b bs c cs n m e, no_longer c cs b bs m n (sym e))) e
