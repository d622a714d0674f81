-- `soundness::states::states_hold` meets its contract.
use mathlib.Core.Bool.{◌&&◌}
use mathlib.Core.Path.{ap₂, ◌∙◌}
use Rattle.buffer.specs.TestLaws.{or_zero}
use Rattle.soundness.proofs.states.states_hold.Goals as goal

pub returns : goal.returns
returns c =
    or_zero c.units_unfit.result c.checks_unfit.result
    ∙ ap₂ (λ a b. a && b) c.units_unfit.ensures c.checks_unfit.ensures
