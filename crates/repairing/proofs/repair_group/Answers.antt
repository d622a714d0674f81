-- `repairing::repair_group` meets its contract.
use Rattle.repairing.proofs.Repaired.{group_rebuilt, group_made, group_repaired}
use Rattle.repairing.proofs.repair_group.Goals as goal

pub make_units-requires : goal.make_units-requires
make_units-requires c =
    group_rebuilt c.requires.near c.rebuild_units.ensures

pub serve_units-requires : goal.serve_units-requires
serve_units-requires c =
    group_made c.requires.near c.rebuild_units.ensures c.make_units.ensures

pub returns : goal.returns
returns c =
    group_repaired c.requires.near c.rebuild_units.ensures c.make_units.ensures
    c.serve_units.ensures
