-- `digits::digit_value` meets its contract.
use mathlib.Core.Path.{sym}
use native.Mathlib.Omega.{arith}
use Rattle.lines.specs.DigitLaws.{digit_below, digit_number, digit_between, digit_letter, digit_above}
use Rattle.lines.proofs.digits.digit_value.Goals as goal

pub returns-in-48-to-57 : goal.returns-in-48-to-57
returns-in-48-to-57 c =
    (sym (digit_number _ (omega arith) (omega arith)), omega arith)

pub returns-in-65-to-70 : goal.returns-in-65-to-70
returns-in-65-to-70 c =
    (omega (arith, digit_letter c.args.c), omega arith)

pub returns-in_default : goal.returns-in_default
returns-in_default c =
    digit_below _ (omega arith)

pub returns-in_default-2 : goal.returns-in_default-2
returns-in_default-2 c =
    digit_between _ (omega arith) (omega arith)

pub returns-in_default-3 : goal.returns-in_default-3
returns-in_default-3 c =
    digit_above _ (omega arith)
