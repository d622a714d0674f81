-- `soundness::units::unit_count` meets its contract.
use mathlib.Core.Path.{sym, ◌∙◌}
use Rattle.soundness.proofs.UnitCounts.{served_unit, lost_unit}
use Rattle.soundness.proofs.units.unit_count.Goals as goal

pub returns-then-serves : goal.returns-then-serves
returns-then-serves g c =
    served_unit g.R.Reach.own c.args.unit.store.now c.args.unit.number c.requires (sym c.serves.ensures ∙ c.if-serves.true) c.served.ensures

pub returns-else-serves : goal.returns-else-serves
returns-else-serves g c =
    lost_unit g.R.Reach.own c.args.unit.store.now c.args.unit.number c.requires (sym c.serves.ensures ∙ c.if-serves.false) c.lost.ensures
