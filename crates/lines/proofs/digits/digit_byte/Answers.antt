-- `digits::digit_byte` meets its contract.
use mathlib.Core.Path.{sym}
use native.Mathlib.Omega.{arith}
use Rattle.lines.specs.DigitLaws.{digit_of_number, digit_of_letter}
use Rattle.lines.proofs.digits.digit_byte.Goals as goal

pub returns-then-v-lt10 : goal.returns-then-v-lt10
returns-then-v-lt10 c =
    sym (digit_of_number _ c.if-v-lt10.true)

pub returns-else-v-lt10 : goal.returns-else-v-lt10
returns-else-v-lt10 c =
    omega (arith, digit_of_letter c.args.v)
