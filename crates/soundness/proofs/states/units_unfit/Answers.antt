-- `soundness::states::units_unfit` meets its contract.
use Prim.Native.Nat.{◌+◌}
use mathlib.Core.Path.{ap, ◌∙◌}
use lib.Dec.{ltb}
use Rattle.buffer.specs.LoopTests.{gathering_start, gathering_turn, gathering_end}
use Rattle.buffer.specs.Bytes.{byte}
use Rattle.model.specs.Sound.{state_fits}
use Rattle.soundness.proofs.states.units_unfit.Goals as goal

pub loop-u-init : goal.loop-u-init
loop-u-init c =
    gathering_start

pub loop-u-preserved : goal.loop-u-preserved
loop-u-preserved c =
    let s = c.args.s.now in
    let u = c.loop-u.u in
    gathering_turn _ c.loop-u.invariant c.loop-u-test.true
    (c.unfit-any.ensures ∙ ap (λ i. state_fits (ltb u (byte s 6)) (byte s (8 + i))) c.from.ensures)

pub returns : goal.returns
returns c =
    gathering_end c.loop-u.invariant c.loop-u-test.false
