use Rattle.std.proofs.Common.{◌≡◌, ◌+◌, ◌^◌, min, ◌∷◌, take}
use Rattle.word.specs.Numbers.{Digits, value}
use Rattle.word.proofs.numeral.digits.Given as goal

abbrev pub invariant-loop-byte : goal.invariant-loop-byte
invariant-loop-byte l = Digits (take l.byte-index l.rest) × (l.n ≡ min (value ((48 + l.lead) ∷ take l.byte-index l.rest)) (2 ^ 32))
