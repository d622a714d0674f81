-- `splitting::add_unit` meets its contract.
use native.Mathlib.Omega.{arith}
use Rattle.encoding.specs.Holding.{holds_long}
use Rattle.model.specs.StoreLaws.{level_of}
use Rattle.splitting.proofs.Added.{dealt_holds, marked_holds, new_holds, all_added}
use Rattle.splitting.proofs.add_unit.Goals as goal

pub mark-requires : goal.mark-requires
mark-requires c =
    let sp = c.requires.0 in
    (holds_long (dealt_holds sp c.deal_out.ensures), sp.unit)

pub set_first-requires : goal.set_first-requires
set_first-requires c =
    let sp = c.requires.0 in
    (holds_long (marked_holds sp c.deal_out.ensures c.mark.ensures), omega (arith, sp.apart, sp.unit))

pub make_groups-requires : goal.make_groups-requires
make_groups-requires c =
    let sp = c.requires.0 in
    (holds_long (new_holds sp c.deal_out.ensures c.mark.ensures _ c.set_first.ensures), sp.from, sp.apart, sp.unit)

pub returns : goal.returns
returns c =
    let sp = c.requires.0 in
    all_added sp c.deal_out.ensures c.mark.ensures _ c.set_first.ensures (level_of c.args.s.now) c.make_groups.ensures
