-- `digits::read_field` meets its contract.
use mathlib.Core.Path.{refl, ◌∙◌}
use native.Mathlib.Omega.{arith}
use Rattle.lines.proofs.Reading.{field_read_start, byte_fits, field_read_turn, field_read_fail, field_read_end}
use Rattle.lines.proofs.digits.read_field.Goals as goal

pub loop-i-init : goal.loop-i-init
loop-i-init c =
    field_read_start

pub returns-in_err-field : goal.returns-in_err-field
returns-in_err-field c =
    c.from_residual.ensures ∙ field_read_fail c.loop-i.invariant c.loop-i-test.true c.requires c.in_err-field.ensures

pub overflow_cast-field : goal.overflow_cast-field
overflow_cast-field c =
    omega (arith, byte_fits c.loop-i.invariant c.loop-i-test.true c.requires c.in_ok-field.ensures)

pub loop-i-preserved : goal.loop-i-preserved
loop-i-preserved c =
    let p = c.loop-i in
    field_read_turn p.invariant c.loop-i-test.true c.requires c.in_ok-field.ensures (omega (arith, p.invariant.filled.long))

pub returns : goal.returns
returns c =
    field_read_end c.loop-i.invariant refl c.loop-i-test.false
