-- The level of a delay.
use Rattle.std.specs.Prelude.{ℕ, ◌-◌, ◌^◌, ◌<◌, ◌≤◌}

-- i is the level of a delay of ns: 2 ^ (i − 1) ≤ ns < 2 ^ i, so i is how many binary digits ns has
pub record IsLevel (ns i : ℕ) : Type 0 where
  pub least : 1 ≤ i
  pub reaches : 2 ^ (i - 1) ≤ ns
  pub under : ns < 2 ^ i
