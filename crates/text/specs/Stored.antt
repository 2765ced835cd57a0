-- One word read into the values of its line.
use Rattle.std.specs.Prelude.{◌≡◌, ℕ, List, ◌≢◌, slice_index}
use Rattle.text.specs.Values.{Spells}
use Rattle.text.specs.declared.values.Values.{Values}

-- the word w at the place j is read, and what stands at the other places stays
pub record Stored (state_at j : ℕ) (w : List ℕ) (was now : Values) : Type 0 where
  pub spells : Spells state_at j w (slice_index now.numbers j) now.state
  pub numbers : (i : ℕ) → (i ≢ j) → slice_index now.numbers i ≡ slice_index was.numbers i
  pub state : (j ≢ state_at) → now.state ≡ was.state
