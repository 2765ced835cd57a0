-- Labels of stations: one of them becomes another, and how many there are.
use Rattle.std.proofs.Common.{◌≡◌, ℕ, zero, suc, ◌+◌, ◌<◌, ◌≤◌, ◌≢◌, sym, refl, ap, ◌∙◌, arith}
use native.Mathlib.Decide.{ℕ_discrete}
use Rattle.tree.specs.Totals.{total}
use Rattle.tree.proofs.Totals.{total_longer, total_changed}

-- the label hi has become lo
pub record Merged (label : ℕ → ℕ) (hi lo : ℕ) (label' : ℕ → ℕ) : Type 0 where
  pub at : (u : ℕ) → label u ≡ hi → label' u ≡ lo
  pub off : (u : ℕ) → label u ≢ hi → label' u ≡ label u

pub stays : {label label' : ℕ → ℕ} {hi lo s : ℕ} → Merged label hi lo label' → (u : ℕ) → s ≢ hi → label u ≡ s → label' u ≡ s
stays m u n h = m.off u (λ e. n (sym h ∙ e)) ∙ h

pick : {A : Type 0} → Dec A → ℕ → ℕ → ℕ
pick (yes e) a b = a
pick (no n) a b = b

pick_yes : {A : Type 0} (d : Dec A) (a b : ℕ) → A → pick d a b ≡ a
unfolding pick
pick_yes (yes e) a b h = refl
pick_yes (no n) a b h = absurd (n h)

pick_no : {A : Type 0} (d : Dec A) (a b : ℕ) → ¬ A → pick d a b ≡ b
unfolding pick
pick_no (yes e) a b h = absurd (h e)
pick_no (no n) a b h = refl

pub merge : (ℕ → ℕ) → ℕ → ℕ → ℕ → ℕ
merge label hi lo u = pick (ℕ_discrete (label u) hi) lo (label u)

pub merged : (label : ℕ → ℕ) (hi lo : ℕ) → Merged label hi lo (merge label hi lo)
unfolding merge
merged label hi lo =
    record { at = λ u h. pick_yes (ℕ_discrete (label u) hi) lo (label u) h; off = λ u h. pick_no (ℕ_discrete (label u) hi) lo (label u) h }

-- 1 for a station that is its own label, 0 for another
pub own : (ℕ → ℕ) → ℕ → ℕ
own label u = pick (ℕ_discrete (label u) u) 1 0

pub own_yes : (label : ℕ → ℕ) (u : ℕ) → label u ≡ u → own label u ≡ 1
unfolding own
own_yes label u h = pick_yes (ℕ_discrete (label u) u) 1 0 h

pub own_no : (label : ℕ → ℕ) (u : ℕ) → label u ≢ u → own label u ≡ 0
unfolding own
own_no label u h = pick_no (ℕ_discrete (label u) u) 1 0 h

pub own_all : (n : ℕ) → total (own (λ u. u)) n ≡ n
own_all zero = refl
own_all (suc n) = omega (arith, own_all n, own_yes (λ u. u) n refl)

-- where there is a station, there is a label
pub own_some : (label : ℕ → ℕ) (u n : ℕ) → label u ≡ u → u < n → 1 ≤ total (own label) n
own_some label u n e h = omega (arith, own_yes label u e, total_longer (own label) (suc u) n h)

module _ {label label' : ℕ → ℕ} {hi lo : ℕ} (m : Merged label hi lo label') (self : (u : ℕ) → label (label u) ≡ label u) (apart : lo ≢ hi) (low : label lo ≡ lo) where
  pub merged_self : (u : ℕ) → label' (label' u) ≡ label' u
  merged_self u = go (ℕ_discrete (label u) hi)
    where
      go : Dec (label u ≡ hi) → label' (label' u) ≡ label' u
      go (yes e) = let at = m.at u e in ap label' at ∙ stays m lo apart low ∙ sym at
      go (no n) = let off = m.off u n in ap label' off ∙ m.off (label u) (λ e. n (sym (self u) ∙ e)) ∙ self u ∙ sym off

  -- there is one label less
  pub merged_own : (n : ℕ) → label hi ≡ hi → hi < n → total (own label') n + 1 ≡ total (own label) n
  merged_own n high l =
      omega (arith, total_changed (own label) (own label') hi n l (λ u d. same u d (ℕ_discrete (label u) hi) (ℕ_discrete (label u) u)), own_yes label hi high, own_no label' hi (λ e. apart (sym (m.at hi high) ∙ e)))
    where
      same : (u : ℕ) → u ≢ hi → Dec (label u ≡ hi) → Dec (label u ≡ u) → own label' u ≡ own label u
      same u d (yes e) (yes f) = absurd (d (sym f ∙ e))
      same u d (yes e) (no f) = own_no label' u (λ h. f (ap label (sym h ∙ m.at u e) ∙ low ∙ sym (m.at u e) ∙ h)) ∙ sym (own_no label u f)
      same u d (no e) (yes f) = own_yes label' u (m.off u e ∙ f) ∙ sym (own_yes label u f)
      same u d (no e) (no f) = own_no label' u (λ h. f (sym (m.off u e) ∙ h)) ∙ sym (own_no label u f)
