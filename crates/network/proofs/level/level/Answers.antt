-- The level is the number of binary digits, 32 less the zeros before the first one.
use Rattle.std.proofs.Common.{◌≡◌, ℕ, suc, ◌+◌, ◌-◌, ◌^◌, ◌<◌, ◌≤◌, arith}
use lib.Count.{count_leading_zeros, leading_top, leading_of_zero}
use Rattle.network.specs.Levels.{IsLevel}
use Rattle.network.proofs.level.level.Goals as goal

of_digits : (ns i : ℕ) → 1 ≤ ns → ns < 2 ^ 32 → i ≡ 32 - count_leading_zeros 32 ns → IsLevel ns i
of_digits ns i h f e = go (leading_top 32 ns h f)
  where
    go : ((j : ℕ) × (count_leading_zeros 32 ns + suc j ≡ 32) × (2 ^ j ≤ ns) × (ns < 2 ^ suc j)) → IsLevel ns i
    go (j, z, l, u) =
        let s : i ≡ suc j = omega arith in
        let p : suc j - 1 ≡ j = omega arith in
        record { least = omega arith; reaches = rw (s, p) l; under = rw s u }

pub returns : goal.returns
returns c =
    record {
      delay = λ h. of_digits c.args.ns _ h (omega arith) (omega arith);
      nothing = λ e. rw (e, leading_of_zero);
    }
