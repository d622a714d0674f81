-- `lookup::state` meets its contract.
use mathlib.Core.Path.{◌∙◌}
use Rattle.lookup.specs.States.{state_byte}
use Rattle.lookup.proofs.state.Goals as goal

pub returns : goal.returns
returns c =
    rw c.from.ensures at c.byte_at.ensures ∙ state_byte c.args.s.now c.args.w
