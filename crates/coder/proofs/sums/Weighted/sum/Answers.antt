-- `coder::sums::Weighted::sum` meets its contract.
use mathlib.Core.Path.{ap, ◌∙◌}
use native.Mathlib.Omega.{arith}
use Rattle.buffer.specs.Bytes.{zeros}
use Rattle.coder.proofs.Weighing.{weighing_start, weighing_turn}
use Rattle.coder.proofs.sums.Weighted.sum.Goals as goal

pub loop-b-init : goal.loop-b-init
loop-b-init c =
    let self = c.args.self.now in
    weighing_start _ _ _ _ _ self.small.low self.bytes _ (c.clear.ensures ∙ ap zeros c.requires)

pub loop-b-preserved : goal.loop-b-preserved
loop-b-preserved c =
    let self = c.args.self.now in
    weighing_turn _ _ _ _ _ self.small.low self.bytes _ _ _ _ c.loop-b.invariant (omega arith) c.add_digit.ensures
