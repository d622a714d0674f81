-- `soundness::states::first_checks_of` meets its contract.
use mathlib.Core.List.{[], ◌∷◌}
use Rattle.buffer.specs.Loops.{entries}
use Rattle.soundness.proofs.states.first_checks_of.Goals as goal

pub returns : goal.returns
unfolding entries
returns c =
    let k = c.first_check.ensures.0 in
    let l = c.first_check-2.ensures.0 in
    let m = c.first_check-3.ensures.0 in
    let n = c.first_check-4.ensures.0 in
    λ i. k i ∷ l i ∷ m i ∷ n i ∷ []
