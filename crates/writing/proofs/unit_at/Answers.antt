-- `writing::unit_at` meets its contract.
use native.Mathlib.Omega.{arith}
use mathlib.Core.Path.{sym, ◌∙◌}
use Rattle.writing.proofs.Lost.{data_at, checks_at}
use Rattle.writing.proofs.unit_at.Goals as goal

pub returns-then-w-lt16 : goal.returns-then-w-lt16
returns-then-w-lt16 c =
    c.slot_at.ensures.0 ∙ sym (data_at _ _ (omega (arith, c.if-w-lt16.true)))

pub returns : goal.returns
returns c =
    c.check_at.ensures.0 ∙ sym (checks_at _ _ (omega (arith, c.if-w-lt16.false)))
