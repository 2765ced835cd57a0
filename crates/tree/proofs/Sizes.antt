-- Quotients rounded up, and widths that double.
use Rattle.std.proofs.Common.{◌≡◌, ℕ, suc, ◌+◌, ◌-◌, ◌*◌, ◌/◌, ◌^◌, ◌<◌, ◌≤◌, sym, ap, mul-le-mul_right, mul_assoc, suc-mul, div-lt_iff_lt-mul, pow-suc, arith}
use native.Mathlib.Nat.{lt-div-mul-add}
use Rattle.tree.specs.Components.{rounded_up}

-- so many times w is enough to cover a, and nothing less is
pub rounded_covers : (a w : ℕ) → 0 < w → a ≤ rounded_up a w * w
rounded_covers a w h = omega (arith, lt-div-mul-add {a = a + (w - 1)} h)

pub rounded_least : (a w h : ℕ) → 0 < w → a ≤ h * w → rounded_up a w ≤ h
rounded_least a w h p l =
    let s : a + (w - 1) < suc h * w = omega (arith, suc-mul h w) in
    let r : rounded_up a w < suc h = (div-lt_iff_lt-mul p).1 s in
    omega arith

-- as the width doubles, half as many are enough
pub half_covers : (a w q : ℕ) → a ≤ q * w → a ≤ ((q + 1) / 2) * (2 * w)
half_covers a w q p =
    let h : ℕ = (q + 1) / 2 in
    let l : q ≤ h * 2 = omega arith in
    omega (arith, mul-le-mul_right w l, sym (mul_assoc h 2 w))

pub double : (i : ℕ) → 1 ≤ i → 2 ^ i ≡ 2 * 2 ^ (i - 1)
double i h = let e : suc (i - 1) ≡ i = omega arith in omega (arith, pow-suc 2 (i - 1), ap (λ z. 2 ^ z) e)
