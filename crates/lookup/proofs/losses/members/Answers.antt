-- `lookup::losses::members` meets its contract.
use mathlib.Core.Path.{◌∙◌}
use Rattle.lookup.specs.GroupLaws.{four_marked}
use Rattle.lookup.proofs.losses.members.Goals as goal

pub returns : goal.returns
returns c =
    rw c.check_states.ensures.bytes at c.first_four.ensures
    ∙ four_marked c.args.s.now c.args.g c.args.r c.missing_at-missing.ensures
