-- What a keeper keeps. A keeper answers what the field calls range minimum queries with point updates: delays at numbered places.
use Rattle.std.specs.Prelude.{◌≡◌, ℕ, ◌<◌, ◌≤◌, List, replicate, IfSome, Some, None, Option, slice_index_or, slice_set}

-- delays: for each place its delay, or None
pub record Keeps : Type 0 where
  pub places : ℕ
  pub delays : List (Option ℕ)

-- the delay at the place p; a place that does not exist counts as none
abbrev pub delay_at : Keeps → ℕ → Option ℕ
delay_at k p = slice_index_or k.delays p None

-- so many places, each with none
abbrev pub all_none : ℕ → Keeps
all_none places = record { places = places; delays = replicate places None }

-- the place p is given a delay or none: where it does not exist, nothing changes
abbrev pub noted : Keeps → ℕ → Option ℕ → Keeps
noted k p d = record { places = k.places; delays = slice_set k.delays p d }

-- when a lowering is done: the place exists, and has none or more than d
abbrev pub MayLower : Keeps → ℕ → ℕ → Type 0
MayLower k p d = (p < k.places) × IfSome (delay_at k p) (λ y. d < y)

-- none of the places from first to last has a delay
abbrev pub NoDelay : Keeps → ℕ → ℕ → Type 0
NoDelay k first last = (p : ℕ) → first ≤ p → p ≤ last → delay_at k p ≡ None

-- d is the smallest delay from first to last: some place there has it, and none there has less
pub record LeastFrom (k : Keeps) (first last d : ℕ) : Type 0 where
  pub place : ℕ
  pub above : first ≤ place
  pub below : place ≤ last
  pub there : delay_at k place ≡ Some d
  pub least : (p y : ℕ) → first ≤ p → p ≤ last → delay_at k p ≡ Some y → d ≤ y
