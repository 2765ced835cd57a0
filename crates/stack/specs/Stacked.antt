-- A stack in the first `len` places of a slice, as a list.
use Rattle.std.specs.Prelude.{◌≡◌, ℕ, ◌+◌, List, [], ◌∷◌, ◌++◌, reverse, take, slice_set}

-- what the stack holds, the bottom first
abbrev pub upward : {A : Type 0} → List A → ℕ → List A
upward room len = take len room

-- the same with the top first
abbrev pub downward : {A : Type 0} → List A → ℕ → List A
downward room len = reverse (take len room)

-- x was pushed: it stands at the end of the list, and the rest of the slice is as it was
pub record Pushed {A : Type 0} (room : List A) (len : ℕ) (x : A) (room' : List A) (len' : ℕ) : Type 0 where
  pub more : len' ≡ len + 1
  pub written : room' ≡ slice_set room len x
  pub end : upward room' len' ≡ upward room len ++ (x ∷ [])
  pub top : downward room' len' ≡ x ∷ downward room len

-- x was popped: it stood at the end of the list, and the slice is as it was
pub record Popped {A : Type 0} (room : List A) (len : ℕ) (x : A) (room' : List A) (len' : ℕ) : Type 0 where
  pub less : len' + 1 ≡ len
  pub kept : room' ≡ room
  pub end : upward room len ≡ upward room' len' ++ (x ∷ [])
  pub top : downward room len ≡ x ∷ downward room' len'
