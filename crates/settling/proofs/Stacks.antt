-- How many a stack holds.
use Rattle.std.proofs.Common.{◌≡◌, ℕ, ◌≤◌, List, length, take, ◌∙◌}
use Rattle.std.proofs.lemmas.List.{length-take-le, length-reverse}
use Rattle.stack.specs.Stacked.{downward}

pub downward_length : {A : Type 0} (room : List A) (len : ℕ) → len ≤ length room → length (downward room len) ≡ len
downward_length room len h = length-reverse (take len room) ∙ length-take-le len room h
