-- `group::coefficient` meets its contract.
use mathlib.Core.Path.{◌∙◌}
use Rattle.group.specs.Parity.{coefficient}
use Rattle.group.proofs.coefficient.Goals as goal

pub returns : goal.returns
unfolding coefficient
returns c =
    let place = c.from.ensures in
    let check = c.from-2.ensures in
    (c.coefficient.ensures.0 ∙ rw (place, check), c.coefficient.ensures.1)
