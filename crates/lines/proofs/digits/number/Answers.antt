-- `digits::number` meets its contract.
use mathlib.Core.Path.{◌∙◌}
use native.Mathlib.Omega.{arith}
use Rattle.lines.proofs.Reading.{reading_start, reading_turn, reading_room, reading_fail, reading_end}
use Rattle.lines.proofs.digits.number.Goals as goal

pub loop-c-init : goal.loop-c-init
loop-c-init c =
    reading_start

pub overflow_mul-value : goal.overflow_mul-value
overflow_mul-value c =
    omega (arith, reading_room c.loop-c.invariant c.loop-c-test.true c.requires)

pub returns-in_err-digit_value : goal.returns-in_err-digit_value
returns-in_err-digit_value c =
    c.from_residual.ensures ∙ reading_fail c.loop-c.invariant c.loop-c-test.true c.in_err-digit_value.ensures

pub overflow_add-value : goal.overflow_add-value
overflow_add-value c =
    omega (arith, c.from.ensures, c.in_ok-digit_value.ensures.1, reading_room c.loop-c.invariant c.loop-c-test.true c.requires)

pub loop-c-preserved : goal.loop-c-preserved
loop-c-preserved c =
    reading_turn c.loop-c.invariant c.loop-c-test.true c.in_ok-digit_value.ensures c.from.ensures

pub returns : goal.returns
returns c =
    reading_end c.loop-c.invariant c.loop-c-test.false
