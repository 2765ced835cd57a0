use Rattle.std.proofs.Common.{◌≡◌, ℕ, ◌-◌, ◌^◌, ◌<◌, ◌≤◌, sym, refl, subst, arith, pow_mono}
use Rattle.network.specs.Levels.{IsLevel}
use Rattle.tree.proofs.laws.four_is_of_level_three.Goals as goal

not_below : (i : ℕ) → IsLevel 4 i → ¬ (i ≤ 2)
not_below i l h = let p = pow_mono h in let z : 2 ^ 2 ≡ 4 = refl in omega (arith, l.under)

not_above : (i : ℕ) → IsLevel 4 i → ¬ (3 < i)
not_above i l h = let k : 3 ≤ i - 1 = omega arith in let p = pow_mono k in let z : 2 ^ 3 ≡ 8 = refl in omega (arith, l.reaches)

pub returns : goal.returns
returns c = λ i. (
  λ l. omega (arith, not_below i l, not_above i l),
  λ e. subst (IsLevel 4) (sym e) (record { least = omega arith; reaches = omega arith; under = omega arith }),
)
