-- `lookup::split_pointer` meets its contract.
use native.Mathlib.Omega.{arith}
use Rattle.model.specs.Units.{split_pointer}
use Rattle.model.specs.UnitLaws.{power_most}
use Rattle.lookup.proofs.split_pointer.Goals as goal

pub overflow_sub-result : goal.overflow_sub-result
overflow_sub-result c =
    omega (arith, power_most c.args.m c.requires)

pub returns : goal.returns
unfolding split_pointer
returns c =
    (omega arith, omega (arith, power_most c.args.m c.requires))
