-- `soundness::states::any_out` meets its contract.
use mathlib.Core.Path.{refl}
use Rattle.buffer.specs.LoopTests.{gathering_start, gathering_turn, gathering_end}
use Rattle.soundness.proofs.states.any_out.Goals as goal

pub loop-i-init : goal.loop-i-init
loop-i-init c =
    gathering_start

pub loop-i-preserved : goal.loop-i-preserved
loop-i-preserved c =
    gathering_turn _ c.loop-i.invariant c.loop-i-test.true refl

pub returns : goal.returns
returns c =
    gathering_end c.loop-i.invariant c.loop-i-test.false
