-- `buffer::is_zero` meets its contract.
use mathlib.Core.Path.{refl}
use Rattle.buffer.specs.Loops.{all_zero}
use Rattle.buffer.specs.LoopTests.{gathering_start, gathering_turn, gathering_end}
use Rattle.buffer.proofs.is_zero.Goals as goal

pub loop-x-init : goal.loop-x-init
loop-x-init c =
    gathering_start

pub loop-x-preserved : goal.loop-x-preserved
loop-x-preserved c =
    gathering_turn _ c.loop-x.invariant c.loop-x-test.true refl

pub returns : goal.returns
unfolding all_zero
returns c =
    gathering_end c.loop-x.invariant c.loop-x-test.false
