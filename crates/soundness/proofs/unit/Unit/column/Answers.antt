-- `soundness::unit::Unit::column` meets its contract.
use native.Mathlib.Omega.{arith}
use Rattle.soundness.proofs.Located.{column_place, column_list}
use Rattle.soundness.proofs.Endings.{kept_below}
use Rattle.soundness.proofs.unit.Unit.column.Goals as goal

pub checks_at-records-requires : goal.checks_at-records-requires
checks_at-records-requires c =
    let below = kept_below c.args.self.kept c.requires in
    omega (arith, below, c.args.self.few)

pub returns : goal.returns
returns c =
    (column_list _ _ (column_place _ _ c.args.self.kept.found c.checks_at-records.ensures.0 c.from.ensures), c.ranks.ensures)
