-- `soundness::unit::Unit::slots` meets its contract.
use Rattle.soundness.proofs.Located.{data_list}
use Rattle.soundness.proofs.unit.Unit.slots.Goals as goal

pub returns : goal.returns
returns c =
    (data_list _ _ c.slots_at.ensures.0, c.ranks.ensures)
