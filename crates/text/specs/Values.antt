-- Lines of values: the word at the state's place is a state, every other a number.
use Rattle.std.specs.Prelude.{◌≡◌, ℕ, ◌<◌, List, [], length, ◌≢◌, slice_index, slice_index_or}
use Rattle.text.specs.Split.{words}
use Rattle.word.specs.Numbers.{ReadsNumber, NumberFault}
use Rattle.word.specs.States.{spelled_state, StateFault}
use Rattle.text.specs.Columns.{Faulty}
use Rattle.word.specs.declared.state.State.{State}
use Rattle.text.specs.declared.values.Values.{Values}
use Rattle.word.specs.declared.fault.WordFault.{WordFault}
use Rattle.word.specs.declared.fault.Cause.{Cause}
use Rattle.word.specs.declared.fault.Cause.TheVariants.{InWord, InLine, InTable, TextTooLong, InBook}

-- the word w at the place j spells the state s, if a state stands there, and else the number n
pub record Spells (state_at j : ℕ) (w : List ℕ) (n : ℕ) (s : State) : Type 0 where
  pub state : j ≡ state_at → w ≡ spelled_state s
  pub number : (j ≢ state_at) → ReadsNumber w n

-- it spells some value
pub record GoodValue (state_at : ℕ) (ws : List (List ℕ)) (j : ℕ) : Type 0 where
  pub n : ℕ
  pub s : State
  pub spells : Spells state_at j (slice_index_or ws j []) n s

-- what is wrong with the word w at the place j
pub record WrongWord (state_at j : ℕ) (w : List ℕ) (fault : WordFault) : Type 0 where
  pub state : j ≡ state_at → StateFault w fault
  pub number : (j ≢ state_at) → NumberFault w fault

abbrev pub ValueFault : ℕ → List (List ℕ) → ℕ → Cause → Type 0
ValueFault state_at ws j (InWord fault) = WrongWord state_at j (slice_index_or ws j []) fault
ValueFault state_at ws j (InLine fault) = ⊥
ValueFault state_at ws j (InTable fault) = ⊥
ValueFault state_at ws j TextTooLong = ⊥
ValueFault state_at ws j (InBook fault) = ⊥

-- the line has as many words as columns, and they spell these values, place by place
pub record ValuesRead (columns state_at : ℕ) (ws : List (List ℕ)) (v : Values) : Type 0 where
  pub count : length ws ≡ columns
  pub each : (j : ℕ) → j < columns → Spells state_at j (slice_index_or ws j []) (slice_index v.numbers j) v.state

-- the first fault of a line of values
abbrev pub ValuesFault : ℕ → ℕ → List ℕ → Cause → ℕ → Type 0
ValuesFault columns state_at line = Faulty columns line (GoodValue state_at (words line)) (ValueFault state_at (words line))
