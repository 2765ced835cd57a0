-- Totals: what they are of equal, lesser and changed values.
use Rattle.std.proofs.Common.{◌≡◌, ℕ, zero, suc, ◌+◌, ◌<◌, ◌≤◌, ◌≢◌, sym, refl, ap, arith}
use native.Mathlib.Decide.{ℕ_discrete, dec_le}
use Rattle.tree.specs.Totals.{total}

pub total_same : (f f' : ℕ → ℕ) (n : ℕ) → ((i : ℕ) → i < n → f' i ≡ f i) → total f' n ≡ total f n
total_same f f' zero h = refl
total_same f f' (suc n) h = omega (arith, h n (omega arith), total_same f f' n (λ i l. h i (omega arith)))

pub total_mono : (f f' : ℕ → ℕ) (n : ℕ) → ((i : ℕ) → i < n → f i ≤ f' i) → total f n ≤ total f' n
total_mono f f' zero h = omega arith
total_mono f f' (suc n) h = omega (arith, h n (omega arith), total_mono f f' n (λ i l. h i (omega arith)))

pub total_zero : (n : ℕ) → total (λ i. 0) n ≡ 0
total_zero zero = refl
total_zero (suc n) = omega (arith, total_zero n)

pub total_ones : (n : ℕ) → total (λ i. 1) n ≡ n
total_ones zero = refl
total_ones (suc n) = omega (arith, total_ones n)

-- a longer total is no less
pub total_longer : (f : ℕ → ℕ) (m n : ℕ) → m ≤ n → total f m ≤ total f n
total_longer f m zero h = omega (arith, ap (total f) (none m h))
  where
    none : (m : ℕ) → m ≤ 0 → m ≡ 0
    none m h = omega arith
total_longer f m (suc n) h = go (dec_le m n) (λ l. total_longer f m n l)
  where
    go : Dec (m ≤ n) → (m ≤ n → total f m ≤ total f n) → total f m ≤ total f (suc n)
    go (yes l) later = omega (arith, later l)
    go (no l) later = let e : m ≡ suc n = omega arith in omega (arith, ap (total f) e)

-- one value has changed
pub total_changed : (f f' : ℕ → ℕ) (v n : ℕ) → v < n → ((u : ℕ) → u ≢ v → f' u ≡ f u) → total f' n + f v ≡ total f n + f' v
total_changed f f' v zero h off = absurd (omega arith)
total_changed f f' v (suc n) h off = go (ℕ_discrete v n) (λ l. total_changed f f' v n l off)
  where
    go : Dec (v ≡ n) → (v < n → total f' n + f v ≡ total f n + f' v) → total f' (suc n) + f v ≡ total f (suc n) + f' v
    go (yes z) later = omega (arith, ap f z, ap f' z, total_same f f' n (λ i l. off i (omega arith)))
    go (no z) later = omega (arith, off n (λ e. z (sym e)), later (omega arith))
