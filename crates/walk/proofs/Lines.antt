-- Buckets: the lines of a width, and of the parent's width, which is a multiple of it. All division of the proofs is here.
use Rattle.std.proofs.Common.{◌≡◌, ℕ, suc, ◌+◌, ◌-◌, ◌*◌, ◌/◌, ◌^◌, ◌<◌, ◌≤◌, ◌≢◌, Some, sym, refl, ap, ◌∙◌, mul-le-mul_right, mul_assoc, suc-mul, mul_comm, div-lt_iff_lt-mul, add-mul, div-mul-le_self, mul-div_cancel, add-one, arith, pow_pos, pow-add}
use native.Mathlib.Decide.{dec_lt}
use native.Mathlib.Nat.{lt-div-mul-add, div-eq_of_lt-le, div-div-eq-div-mul}
use Rattle.network.specs.Network.{Network}
use Rattle.tree.specs.Tree.{Tree, Inner, Fits, width}
use Rattle.walk.specs.Steps.{coarse}

pub suc_line : (a w : ℕ) → suc a * w ≡ a * w + w
suc_line a w = suc-mul a w

pub line_mono : (a b w : ℕ) → a ≤ b → a * w ≤ b * w
line_mono a b w h = mul-le-mul_right w h

pub line_lt : (a b w : ℕ) → a * w < b * w → a < b
line_lt a b w h = go (dec_lt a b)
  where
    go : Dec (a < b) → a < b
    go (yes l) = l
    go (no l) = absurd (omega (arith, line_mono b a w (omega arith)))

-- a line before another is a width before it
pub line_next : (a b w : ℕ) → a * w < b * w → a * w + w ≤ b * w
line_next a b w h = omega (arith, line_mono (suc a) b w (line_lt a b w h), suc_line a w)

line_same : (a b w : ℕ) → 0 < w → a * w ≡ b * w → a ≡ b
line_same a b w h e =
    let p : a < suc b = line_lt a (suc b) w (omega (arith, suc_line b w)) in
    let q : b < suc a = line_lt b (suc a) w (omega (arith, suc_line a w)) in
    omega arith

-- d is in the bucket m
pub bucket_low : (d w m : ℕ) → d / w ≡ m → m * w ≤ d
bucket_low d w m e = omega (arith, div-mul-le_self d w, ap (λ k. k * w) e)

pub bucket_high : (d w m : ℕ) → 0 < w → d / w ≡ m → d < m * w + w
bucket_high d w m h e = omega (arith, lt-div-mul-add {a = d} h, ap (λ k. k * w) e)

pub bucket_is : (d w m : ℕ) → 0 < w → m * w ≤ d → d < m * w + w → d / w ≡ m
bucket_is d w m h p q = div-eq_of_lt-le w p (omega (arith, suc_line m w, ap (λ k. k * w) (add-one m)))

-- m more is no more than m buckets more
pub bucket_add : (a b m q : ℕ) → 0 < q → a ≤ b + m → a / q ≤ b / q + m
bucket_add a b m q h l =
    let s : a < suc (b / q + m) * q = omega (arith, bucket_high b q (b / q) h refl, suc_line (b / q + m) q, add-mul (b / q) m q, grow m q h) in
    let r : a / q < suc (b / q + m) = (div-lt_iff_lt-mul h).1 s in
    omega arith
  where
    grow : (m q : ℕ) → 0 < q → m ≤ m * q
    grow m q h = omega (arith, mul_comm m q, line_mono 1 q m h, suc_line 0 m)

pub width_pos : (t : Tree) (x : ℕ) → 0 < width t x
width_pos t x = pow_pos (t.level x - 1)

-- how many widths of x make one of its parent p
abbrev ratio : Tree → ℕ → ℕ → ℕ
ratio t x p = 2 ^ (t.level p - t.level x)

-- the lines of x among those of its parent p
module _ {g : Network} {t : Tree} (fits : Fits g t) {x p : ℕ} (h : t.parent x ≡ Some p) (i : Inner t x) where
  ratio_pos : 0 < ratio t x p
  ratio_pos = pow_pos (t.level p - t.level x)

  widths : width t p ≡ ratio t x p * width t x
  widths = ap (λ k. 2 ^ k) (split (t.level p) (t.level x) (fits.positive x i) (fits.rising x p h)) ∙ pow-add 2 (t.level p - t.level x) (t.level x - 1)
    where
      split : (a b : ℕ) → 1 ≤ b → b < a → a - 1 ≡ (a - b) + (b - 1)
      split a b h l = omega arith

  lines : (m : ℕ) → m * width t p ≡ (m * ratio t x p) * width t x
  lines m = ap (λ k. m * k) widths ∙ sym (mul_assoc m (ratio t x p) (width t x))

  pub coarse_next : (k m : ℕ) → k * width t x < m * width t p → k * width t x + width t x ≤ m * width t p
  coarse_next k m l = omega (arith, lines m, line_next k (m * ratio t x p) (width t x) (omega (arith, lines m)))

  pub coarse_high : (k b : ℕ) → coarse t x p k ≡ b → k * width t x + width t x ≤ b * width t p + width t p
  coarse_high k b e =
      omega (
        arith,
        line_mono (suc k) (suc b * ratio t x p) (width t x) (omega (arith, bucket_high k (ratio t x p) b ratio_pos e, suc_line b (ratio t x p))),
        suc_line k (width t x),
        lines (suc b),
        suc_line b (width t p),
      )

  -- one past the last line of a bucket of p
  pub coarse_past : (k b : ℕ) → coarse t x p k ≡ b → coarse t x p (suc k) ≢ b → k * width t x + width t x ≡ b * width t p + width t p
  coarse_past k b e n = go (dec_lt (suc k) (b * ratio t x p + ratio t x p))
    where
      go : Dec (suc k < b * ratio t x p + ratio t x p) → k * width t x + width t x ≡ b * width t p + width t p
      go (yes l) = absurd (n (bucket_is (suc k) (ratio t x p) b ratio_pos (omega (arith, bucket_low k (ratio t x p) b e)) l))
      go (no l) =
          omega (
            arith,
            coarse_high k b e,
            line_mono (suc b * ratio t x p) (suc k) (width t x) (omega (arith, suc_line b (ratio t x p))),
            suc_line k (width t x),
            lines (suc b),
            suc_line b (width t p),
          )

  -- a delay's bucket of x lies in its bucket of p
  pub coarse_least : (d : ℕ) → coarse t x p (d / width t x) ≡ d / width t p
  coarse_least d = div-div-eq-div-mul d (width t x) (ratio t x p) ∙ ap (λ k. d / k) (mul_comm (width t x) (ratio t x p) ∙ sym widths)

  -- a line of x that is a line of p
  pub coarse_line : (k m : ℕ) → k * width t x ≡ m * width t p → coarse t x p k ≡ m
  coarse_line k m e = ap (λ j. j / ratio t x p) (line_same k (m * ratio t x p) (width t x) (width_pos t x) (e ∙ lines m)) ∙ mul-div_cancel m ratio_pos
