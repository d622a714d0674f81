-- `soundness::states::outs_in` meets its contract.
use Rattle.soundness.proofs.Endings.{group_outs}
use Rattle.soundness.proofs.states.outs_in.Goals as goal

pub returns : goal.returns
returns c =
    group_outs c.args.s.now c.args.g c.from-group.ensures c.out_from.ensures.0 c.out_from-2.ensures.0
