use Rattle.std.proofs.Common.{refl, arith}
use Rattle.word.proofs.Digits.{no_digit}
use Rattle.word.proofs.Numerals.{digit_at, digits_more}
use Rattle.word.proofs.numeral.digits.Goals as goal

pub returns-in_default : goal.returns-in_default
returns-in_default c = (refl, λ ds. no_digit _ c.from.result c.from.ensures c.in_default.not-Digit (digit_at c.args.rest.now c.loop-byte.byte-index ds c.loop-byte-test.true))

pub loop-byte-preserved : goal.loop-byte-preserved
loop-byte-preserved c =
    let told = c.in-Digit.ensures in
    digits_more _ c.args.rest.now _ c.loop-byte.n c.in-Digit.digit _ c.loop-byte-test.true told.0 told.1 c.loop-byte.invariant (omega arith)
