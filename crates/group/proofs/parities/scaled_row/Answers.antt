-- `group::parities::scaled_row` meets its contract.
use native.Mathlib.Omega.{arith}
use Rattle.buffer.specs.LoopWrites.{filling_start, filling_turn, filling_end}
use Rattle.group.specs.ScaledRow.{scaled_row}
use Rattle.group.proofs.parities.scaled_row.Goals as goal

pub loop-i-init : goal.loop-i-init
loop-i-init c =
    filling_start

pub loop-i-preserved : goal.loop-i-preserved
loop-i-preserved c =
    filling_turn _ c.loop-i.invariant (omega arith) c.scale.ensures

pub returns : goal.returns
unfolding scaled_row
returns c =
    filling_end c.loop-i.invariant (omega arith)
