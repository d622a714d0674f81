-- `splitting::remove_unit` meets its contract.
use native.Mathlib.Omega.{arith}
use Rattle.encoding.specs.Holding.{holds_long}
use Rattle.splitting.proofs.Removed.{merged_holds, marked_holds, states_hold, wiped_holds, all_removed}
use Rattle.splitting.proofs.remove_unit.Goals as goal

pub mark-requires : goal.mark-requires
mark-requires c =
    let sp = c.requires.0.split in
    (holds_long (merged_holds sp c.merge_into.ensures), sp.unit)

pub set_first-requires : goal.set_first-requires
set_first-requires c =
    let sp = c.requires.0.split in
    (holds_long (marked_holds sp c.merge_into.ensures c.mark.ensures), omega (arith, sp.apart, sp.unit))

pub clear_first-requires : goal.clear_first-requires
clear_first-requires c =
    let sp = c.requires.0.split in
    (holds_long (states_hold sp c.merge_into.ensures c.mark.ensures c.set_first.ensures), sp.unit)

pub make_groups-requires : goal.make_groups-requires
make_groups-requires c =
    let sp = c.requires.0.split in
    (holds_long (wiped_holds sp c.merge_into.ensures c.mark.ensures c.set_first.ensures c.clear_first.ensures), sp.from, sp.apart, sp.unit)

pub returns : goal.returns
returns c =
    let sp = c.requires.0.split in
    all_removed sp c.merge_into.ensures c.mark.ensures c.set_first.ensures c.clear_first.ensures c.requires.1 c.make_groups.ensures
