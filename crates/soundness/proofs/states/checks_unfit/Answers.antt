-- `soundness::states::checks_unfit` meets its contract.
use Prim.Native.Nat.{◌+◌}
use mathlib.Core.Path.{ap₂, ◌∙◌}
use Rattle.buffer.specs.LoopTests.{gathering_start, gathering_turn, gathering_end}
use Rattle.buffer.specs.Bytes.{byte}
use Rattle.model.specs.Sound.{state_fits}
use Rattle.soundness.proofs.states.checks_unfit.Goals as goal

pub loop-c-init : goal.loop-c-init
loop-c-init c =
    gathering_start

pub loop-c-preserved : goal.loop-c-preserved
loop-c-preserved c =
    let s = c.args.s.now in
    gathering_turn _ c.loop-c.invariant c.loop-c-test.true
    (c.unfit-any.ensures ∙ ap₂ (λ t i. state_fits t (byte s (24 + i))) c.has_check-placed.ensures c.from.ensures)

pub returns : goal.returns
returns c =
    gathering_end c.loop-c.invariant c.loop-c-test.false
