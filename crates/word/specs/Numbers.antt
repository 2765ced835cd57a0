-- Numbers as words spell them.
use Rattle.std.specs.Prelude.{◌≡◌, ℕ, ◌+◌, ◌-◌, ◌*◌, ◌^◌, ◌<◌, ◌≤◌, List, [], ◌∷◌, length, ◌≢◌}
use Rattle.word.specs.Bytes.{IsDigit}
use Rattle.word.specs.declared.fault.WordFault.{WordFault}
use Rattle.word.specs.declared.fault.WordFault.TheVariants.{Empty, NotANumber, TooLarge, BadState}

-- every byte is a digit
abbrev pub Digits : List ℕ → Type 0
Digits [] = Unit {0}
Digits (b ∷ bs) = IsDigit b × Digits bs

-- the number that digits write: each counts for its value times the power of ten of its place
abbrev pub value : List ℕ → ℕ
value [] = 0
value (b ∷ bs) = (b - 48) * 10 ^ length bs + value bs

-- a word that spells a number: a single 0, or a digit 1 to 9 with further digits
abbrev pub Numeral : List ℕ → Type 0
Numeral [] = ⊥
Numeral (b ∷ bs) = IsDigit b × Digits bs × (b ≡ 48 → bs ≡ [])

-- the largest number of a sheet is 4,294,967,295
abbrev pub limit : ℕ
limit = 2 ^ 32

-- the word w spells the number n of a sheet
abbrev pub ReadsNumber : List ℕ → ℕ → Type 0
ReadsNumber w n = Numeral w × (value w ≡ n) × (n < limit)

-- what is wrong with the word w where a number is due; of two causes the smaller number is given
abbrev pub NumberFault : List ℕ → WordFault → Type 0
NumberFault w Empty = w ≡ []
NumberFault w NotANumber = (w ≢ []) × (Numeral w → ⊥)
NumberFault w TooLarge = Numeral w × (limit ≤ value w)
NumberFault w BadState = ⊥
