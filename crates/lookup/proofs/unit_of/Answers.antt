-- `lookup::unit_of` meets its contract: the unit is the key's by what the 0 or 1 tells. No sum or product is too large, whatever it tells, since the remainders are small.
use mathlib.Core.Path.{◌∙◌}
use native.Mathlib.Omega.{arith}
use Rattle.model.specs.UnitLaws.{unit_below}
use Rattle.lookup.specs.UnitLaws.{first_le_second, bit_exactly, unit_by_bit}
use Rattle.lookup.proofs.unit_of.Goals as goal

pub overflow_sub-result : goal.overflow_sub-result
overflow_sub-result c =
    first_le_second c.digit_sum-sum.result c.from-p.result (omega arith)

pub returns : goal.returns
returns c =
    let power-is = c.from-p.ensures ∙ c.power_below.ensures.0 in
    let split-is = c.from-n.ensures ∙ c.split_pointer.ensures.0 in
    let unit =
    unit_by_bit _ _ _ _ _ power-is split-is (bit_exactly _ _ _ _ _ power-is split-is c.requires (omega arith) (omega arith)) _ c.digit_sum-sum.ensures.0 in
    (unit, rw unit (unit_below c.args.m c.args.key c.requires))
