-- What follows of words and the numbers that they spell.
use Rattle.std.specs.Prelude.{◌≡◌, ℕ, List}
use Rattle.word.specs.Numbers.{ReadsNumber}

abbrev pub OneSpelling : Type 0
OneSpelling = (v w : List ℕ) (n : ℕ) → ReadsNumber v n → ReadsNumber w n → v ≡ w
