-- `soundness::unit::Unit::beside` meets its contract.
use mathlib.Core.Path.{sym, ◌∙◌}
use Rattle.soundness.proofs.Located.{beside_own, beside_listed}
use Rattle.soundness.proofs.unit.Unit.beside.Goals as goal

pub returns-then-unkept : goal.returns-then-unkept
returns-then-unkept c =
    (beside_own _ _ (sym c.unkept.ensures ∙ c.if-unkept.true) c.slots.ensures.0, c.slots.ensures.1)

pub returns-else-unkept : goal.returns-else-unkept
returns-else-unkept c =
    (beside_listed _ _ (sym c.unkept.ensures ∙ c.if-unkept.false) c.column.ensures.0, c.column.ensures.1)
