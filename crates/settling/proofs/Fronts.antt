-- Climbing to the front.
use Rattle.std.proofs.Common.{◌≡◌, ℕ, ◌⊎◌, Some, None, Option, sym, refl, ap, ◌∙◌, subst, inl, inr}
use Rattle.tree.specs.Tree.{Tree, Below, self, up}
use Rattle.tree.proofs.Words.{some_none}
use Rattle.walk.specs.Able.{Fronted}

below_up : {t : Tree} {c d p : ℕ} → Below t c d → t.parent c ≡ Some p → (c ≡ d) ⊎ Below t p d
below_up self e = inl refl
below_up {t = t} {d = d} {p = p} (up {p = q} f b) e = let s : q ≡ p = cc in inr (subst (λ (x : ℕ). Below t x d) s b)

pub climb : {t : Tree} {c d p : ℕ} → Below t c d → t.parent d ≡ Some p → Below t c p
climb self e = up e self
climb (up f b) e = up f (climb b e)

-- the front of c is above an unexpanded parent of c
pub fronted_up : (t : Tree) (base : ℕ → Option ℕ) (c p : ℕ) → t.parent c ≡ Some p → base p ≡ None → Fronted t base c → Fronted t base p
fronted_up t base c p e shut f = elim (below_up f.front.holds e) [
  | inl q ↦ let s : f.front.x ≡ p = cc (ap t.parent q) in absurd (some_none (sym (ap base s) ∙ f.front.based) shut)
  | inr b ↦ record {
    c = f.c;
    front = record { holds = b; shut = f.front.shut; x = f.front.x; parent = f.front.parent; start = f.front.start; based = f.front.based };
  }
]

below_top : {t : Tree} {c d : ℕ} → Below t c d → t.parent c ≡ None → c ≡ d
below_top self e = refl
below_top (up f b) e = absurd (some_none f e)

-- and a root has none
pub not_top : (t : Tree) (base : ℕ → Option ℕ) (c : ℕ) → t.parent c ≡ None → Fronted t base c → ⊥
not_top t base c e f = some_none f.front.parent (sym (ap t.parent (below_top f.front.holds e)) ∙ e)
