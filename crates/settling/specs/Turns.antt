-- What a step does to the visits under way.
use Rattle.std.specs.Prelude.{◌≡◌, ℕ, List, ◌∷◌, Some, None}
use Rattle.tree.specs.Tree.{Tree}
use Rattle.walk.specs.declared.frame.Frame.{Frame}
use Rattle.walk.specs.State.{Core}
use Rattle.walk.specs.Steps.{coarse}
use Rattle.settling.specs.declared.turn.Turn.{Turn}
use Rattle.settling.specs.declared.turn.Turn.TheVariants.{Stay, Leave, Enter}
use Rattle.settling.specs.Parts.{Grown}

-- the visits under way after a step, where f was the innermost
abbrev pub after : Turn → Frame → List Frame → List Frame
after Stay f fs = f ∷ fs
after Leave f fs = fs
after (Enter e) f fs = e ∷ f ∷ fs

-- the visit of c, a child of p, that begins now
abbrev pub beginning : Tree → ℕ → ℕ → Core → Frame
beginning t c p s = record { node = c; began = coarse t c p (s.count c) }

-- a visit of c began, again or for the first time
pub data Entered (t : Tree) (c p : ℕ) (s s' : Core) (r : Frame) : Type 0 where
  again : (β : ℕ) → s.base c ≡ Some β → s' ≡ s → r ≡ beginning t c p s → Entered t c p s s' r
  first : s.base c ≡ None → Grown t c s s' → r ≡ beginning t c p s' → Entered t c p s s' r
