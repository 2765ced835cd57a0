-- The parents, children and roots of the five stations' tree.
use Rattle.std.proofs.Common.{◌≡◌, ℕ, zero, suc, ◌<◌, ◌≤◌, ◌↔◌, [], ◌∷◌, Some, None, refl, ap, subst, inl, inr, arith}
use native.Mathlib.Decide.{dec_le}
use Rattle.network.specs.Lists.{Among}
use Rattle.network.specs.Network.{Under}
use Rattle.network.proofs.Levels.{joined_self, under_grows}
use Rattle.tree.specs.Components.{Holds, Above, Parent, Rising}
use Rattle.tree.specs.Five.{five, five_tree}
use Rattle.tree.specs.Tree.{Inner}
use Rattle.tree.proofs.Words.{some_none, same_some}
use Rattle.tree.proofs.Holding.{share, low, above_rises}
use Rattle.tree.proofs.FiveGroups.{stations, inner, under_zero, under_two, under_four, under_any, u01, u02, u03}

-- what properly holds a node is an inner node of a higher level that holds its lowest station
pub above_inner : {x y : ℕ} → Above five five_tree x y → Inner five_tree y
above_inner {x} {y} a = record { above = elim (dec_le 5 y) [ yes l ↦ l | no l ↦ absurd (station y (omega arith) (above_rises a)) ]; below = a.node }
  where
    station : (y : ℕ) → y < 5 → five_tree.level x < five_tree.level y → ⊥
    station = stations (λ y. five_tree.level x < five_tree.level y → ⊥) (λ h. omega arith) (λ h. omega arith) (λ h. omega arith) (λ h. omega arith) (λ h. omega arith)

-- p is the parent of x: it holds the lowest station of x and another that x does not hold, and no inner node of a lower level holds that of x
pub parent_at :
    (x p u : ℕ) → x < 8 → p < 8 → five_tree.level x ≤ five_tree.level p → Holds five five_tree p (five_tree.lowest x) → Holds five five_tree p u → ¬ Holds five five_tree x u
    → ((y : ℕ) → Inner five_tree y → five_tree.level x < five_tree.level y → Holds five five_tree y (five_tree.lowest x) → five_tree.level p ≤ five_tree.level y) → Parent five five_tree x p
parent_at x p u n m l h k no_u f =
    record {
      node = n;
      above = record { node = m; holds = share five_tree x p l (low five five_tree x) h; properly = λ w. no_u (w u k) };
      smallest = λ y a.
          let hy = a.holds (five_tree.lowest x) (low five five_tree x) in
          share five_tree p y (f y (above_inner a) (above_rises a) hy) h hy;
    }

pub parent0 : Parent five five_tree 0 5
parent0 = parent_at 0 5 1 (omega arith) (omega arith) (omega arith) (joined_self 0) u01 (λ h. let z = under_zero h in omega arith) (inner (λ y. 0 < five_tree.level y → Under five (five_tree.level y) (five_tree.lowest y) 0 → 2 ≤ five_tree.level y) (λ l h. omega arith) (λ l h. omega arith) (λ l h. omega arith))

pub parent1 : Parent five five_tree 1 5
parent1 = parent_at 1 5 0 (omega arith) (omega arith) (omega arith) u01 (joined_self 0) (λ h. let z = under_zero h in omega arith) (inner (λ y. 0 < five_tree.level y → Under five (five_tree.level y) (five_tree.lowest y) 1 → 2 ≤ five_tree.level y) (λ l h. omega arith) (λ l h. omega arith) (λ l h. omega arith))

pub parent2 : Parent five five_tree 2 6
parent2 = parent_at 2 6 0 (omega arith) (omega arith) (omega arith) u02 (joined_self 0) (λ h. let z = under_zero h in omega arith) (inner (λ y. 0 < five_tree.level y → Under five (five_tree.level y) (five_tree.lowest y) 2 → 3 ≤ five_tree.level y) (λ l h. absurd (let z = under_two h in omega arith)) (λ l h. omega arith) (λ l h. omega arith))

pub parent3 : Parent five five_tree 3 7
parent3 = parent_at 3 7 0 (omega arith) (omega arith) (omega arith) u03 (joined_self 0) (λ h. let z = under_zero h in omega arith) (inner (λ y. 0 < five_tree.level y → Under five (five_tree.level y) (five_tree.lowest y) 3 → 5 ≤ five_tree.level y) (λ l h. absurd (let z = under_two h in omega arith)) (λ l h. absurd (let k : 3 ≤ 4 = omega arith in let z = under_four (under_grows k h) in omega arith)) (λ l h. omega arith))

pub parent5 : Parent five five_tree 5 6
parent5 = parent_at 5 6 2 (omega arith) (omega arith) (omega arith) (joined_self 0) u02 (λ h. let z = under_two h in omega arith) (inner (λ y. 2 < five_tree.level y → Under five (five_tree.level y) (five_tree.lowest y) 0 → 3 ≤ five_tree.level y) (λ l h. absurd (omega arith)) (λ l h. omega arith) (λ l h. omega arith))

pub parent6 : Parent five five_tree 6 7
parent6 = parent_at 6 7 3 (omega arith) (omega arith) (omega arith) (joined_self 0) u03 (λ h. let k : 3 ≤ 4 = omega arith in let z = under_four (under_grows k h) in omega arith) (inner (λ y. 3 < five_tree.level y → Under five (five_tree.level y) (five_tree.lowest y) 0 → 5 ≤ five_tree.level y) (λ l h. absurd (omega arith)) (λ l h. absurd (omega arith)) (λ l h. omega arith))

pub parent : (x p : ℕ) → five_tree.parent x ≡ Some p → Parent five five_tree x p
parent zero p e = subst (Parent five five_tree 0) (same_some refl e) parent0
parent (suc zero) p e = subst (Parent five five_tree 1) (same_some refl e) parent1
parent (suc (suc zero)) p e = subst (Parent five five_tree 2) (same_some refl e) parent2
parent (suc (suc (suc zero))) p e = subst (Parent five five_tree 3) (same_some refl e) parent3
parent (suc (suc (suc (suc zero)))) p e = absurd (some_none e refl)
parent (suc (suc (suc (suc (suc zero))))) p e = subst (Parent five five_tree 5) (same_some refl e) parent5
parent (suc (suc (suc (suc (suc (suc zero)))))) p e = subst (Parent five five_tree 6) (same_some refl e) parent6
parent (suc (suc (suc (suc (suc (suc (suc zero))))))) p e = absurd (some_none e refl)
parent (suc (suc (suc (suc (suc (suc (suc (suc x)))))))) p e = absurd (some_none e refl)

pub root : (x y : ℕ) → five_tree.parent x ≡ None → x < 8 → ¬ Above five five_tree x y
root zero y e h a = some_none refl e
root (suc zero) y e h a = some_none refl e
root (suc (suc zero)) y e h a = some_none refl e
root (suc (suc (suc zero))) y e h a = some_none refl e
root (suc (suc (suc (suc zero)))) y e h a =
    inner (λ y. Under five (five_tree.level y) (five_tree.lowest y) 4 → ⊥) (λ u. let z = under_any u in omega arith) (λ u. let z = under_any u in omega arith) (λ u. let z = under_any u in omega arith) y (above_inner a)
    (a.holds 4 (joined_self 4))
root (suc (suc (suc (suc (suc zero))))) y e h a = some_none refl e
root (suc (suc (suc (suc (suc (suc zero)))))) y e h a = some_none refl e
root (suc (suc (suc (suc (suc (suc (suc zero))))))) y e h a =
    inner (λ y. 5 < five_tree.level y → ⊥) (λ l. omega arith) (λ l. omega arith) (λ l. omega arith) y (above_inner a) (above_rises a)
root (suc (suc (suc (suc (suc (suc (suc (suc x)))))))) y e h a = omega arith

pub children : (x d : ℕ) → Among d (five_tree.children x) → five_tree.parent d ≡ Some x
children zero d a = elim a [ ]
children (suc zero) d a = elim a [ ]
children (suc (suc zero)) d a = elim a [ ]
children (suc (suc (suc zero))) d a = elim a [ ]
children (suc (suc (suc (suc zero)))) d a = elim a [ ]
children (suc (suc (suc (suc (suc zero))))) d a = elim a [ inl e ↦ ap five_tree.parent e | inr b ↦ elim b [ inl e ↦ ap five_tree.parent e | inr n ↦ elim n [ ] ] ]
children (suc (suc (suc (suc (suc (suc zero)))))) d a = elim a [ inl e ↦ ap five_tree.parent e | inr b ↦ elim b [ inl e ↦ ap five_tree.parent e | inr n ↦ elim n [ ] ] ]
children (suc (suc (suc (suc (suc (suc (suc zero))))))) d a = elim a [ inl e ↦ ap five_tree.parent e | inr b ↦ elim b [ inl e ↦ ap five_tree.parent e | inr n ↦ elim n [ ] ] ]
children (suc (suc (suc (suc (suc (suc (suc (suc x)))))))) d a = elim a [ ]

pub listed : (x d : ℕ) → five_tree.parent d ≡ Some x → Among d (five_tree.children x)
listed x zero e = subst (λ z. Among 0 (five_tree.children z)) (same_some refl e) (inl refl)
listed x (suc zero) e = subst (λ z. Among 1 (five_tree.children z)) (same_some refl e) (inr (inl refl))
listed x (suc (suc zero)) e = subst (λ z. Among 2 (five_tree.children z)) (same_some refl e) (inr (inl refl))
listed x (suc (suc (suc zero))) e = subst (λ z. Among 3 (five_tree.children z)) (same_some refl e) (inr (inl refl))
listed x (suc (suc (suc (suc zero)))) e = absurd (some_none e refl)
listed x (suc (suc (suc (suc (suc zero))))) e = subst (λ z. Among 5 (five_tree.children z)) (same_some refl e) (inl refl)
listed x (suc (suc (suc (suc (suc (suc zero)))))) e = subst (λ z. Among 6 (five_tree.children z)) (same_some refl e) (inl refl)
listed x (suc (suc (suc (suc (suc (suc (suc zero))))))) e = absurd (some_none e refl)
listed x (suc (suc (suc (suc (suc (suc (suc (suc d)))))))) e = absurd (some_none e refl)

pub pair : (a b : ℕ) → five_tree.lowest a < five_tree.lowest b → Rising five_tree (a ∷ b ∷ [])
pair a b h = (λ d. elim [ inl e ↦ omega (arith, ap five_tree.lowest e) | inr n ↦ elim n [ ] ], ((λ d n. elim n [ ]), tt))

pub rising : (x : ℕ) → Rising five_tree (five_tree.children x)
rising zero = tt
rising (suc zero) = tt
rising (suc (suc zero)) = tt
rising (suc (suc (suc zero))) = tt
rising (suc (suc (suc (suc zero)))) = tt
rising (suc (suc (suc (suc (suc zero))))) = pair 0 1 (omega arith)
rising (suc (suc (suc (suc (suc (suc zero)))))) = pair 5 2 (omega arith)
rising (suc (suc (suc (suc (suc (suc (suc zero))))))) = pair 6 3 (omega arith)
rising (suc (suc (suc (suc (suc (suc (suc (suc x)))))))) = tt

pub top : (r : ℕ) → r < 8 → five_tree.parent r ≡ None → Among r (7 ∷ 4 ∷ [])
top zero h e = absurd (some_none refl e)
top (suc zero) h e = absurd (some_none refl e)
top (suc (suc zero)) h e = absurd (some_none refl e)
top (suc (suc (suc zero))) h e = absurd (some_none refl e)
top (suc (suc (suc (suc zero)))) h e = inr (inl refl)
top (suc (suc (suc (suc (suc zero))))) h e = absurd (some_none refl e)
top (suc (suc (suc (suc (suc (suc zero)))))) h e = absurd (some_none refl e)
top (suc (suc (suc (suc (suc (suc (suc zero))))))) h e = inl refl
top (suc (suc (suc (suc (suc (suc (suc (suc r)))))))) h e = absurd (omega arith)

pub tops : (r : ℕ) → Among r (7 ∷ 4 ∷ []) ↔ (r < 8) × (five_tree.parent r ≡ None)
tops r = (
  elim [ inl e ↦ (omega arith, ap five_tree.parent e) | inr b ↦ elim b [ inl e ↦ (omega arith, ap five_tree.parent e) | inr n ↦ elim n [ ] ] ],
  λ h. top r h.0 h.1,
)
