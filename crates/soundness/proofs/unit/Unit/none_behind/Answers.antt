-- `soundness::unit::Unit::none_behind` meets its contract.
use mathlib.Core.Path.{sym, ◌∙◌}
use Rattle.soundness.specs.Pieces.{none_behind}
use Rattle.soundness.proofs.Endings.{column_none}
use Rattle.soundness.proofs.unit.Unit.none_behind.Goals as goal

pub returns-then-unkept : goal.returns-then-unkept
unfolding none_behind
returns-then-unkept c =
    rw (sym c.unkept.ensures ∙ c.if-unkept.true) c.if-unkept.true

pub returns-else-unkept : goal.returns-else-unkept
unfolding none_behind
returns-else-unkept c =
    rw (sym c.unkept.ensures ∙ c.if-unkept.false)
    (column_none _ _ c.column.ensures.1 c.column.ensures.0 c.from.ensures c.no_keys.ensures)
