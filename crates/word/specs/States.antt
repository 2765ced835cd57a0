-- The state of a link as a word spells it.
use Rattle.std.specs.Prelude.{◌≡◌, ℕ, List, [], codes, Result, MatchResult, ◌≢◌}
use Rattle.word.specs.declared.state.State.{State}
use Rattle.word.specs.declared.state.State.TheVariants.{In, Off}
use Rattle.word.specs.declared.fault.WordFault.{WordFault}
use Rattle.word.specs.declared.fault.WordFault.TheVariants.{Empty, NotANumber, TooLarge, BadState}

abbrev pub spelled_state : State → List ℕ
spelled_state In = codes "in"
spelled_state Off = codes "off"

-- what is wrong with the word w where a state is due
abbrev pub StateFault : List ℕ → WordFault → Type 0
StateFault w Empty = w ≡ []
StateFault w NotANumber = ⊥
StateFault w TooLarge = ⊥
StateFault w BadState = (w ≢ []) × ((s : State) → w ≢ spelled_state s)

-- what a word is read as where a state is due
abbrev pub ReadsState : List ℕ → Result State WordFault → Type 0
ReadsState w result = MatchResult result (λ s. w ≡ spelled_state s) (λ e. StateFault w e)
