-- The list that a stack holds, with the top first.
use Rattle.std.proofs.Common.{◌≡◌, ℕ, ◌+◌, ◌<◌, List, [], ◌∷◌, reverse, length, get_or, take, ap, ◌∙◌}
use Rattle.std.proofs.lemmas.List.{take_more, reverse-append}
use Rattle.stack.specs.Stacked.{downward}

-- by recursion on how many elements there are
pub downward_more : {A : Type 0} (room : List A) (len : ℕ) (d : A) → len < length room → downward room (len + 1) ≡ get_or room len d ∷ downward room len
downward_more room len d lt = ap reverse (take_more room len d lt) ∙ reverse-append (take len room) (get_or room len d ∷ [])
