-- `lookup::losses::rebuildable` meets its contract.
use mathlib.Core.Path.{◌∙◌}
use Rattle.lookup.specs.GroupLaws.{rank_marked}
use Rattle.lookup.proofs.losses.rebuildable.Goals as goal

pub returns : goal.returns
returns c =
    rw c.check_states.ensures.bytes at c.rebuildable.ensures
    ∙ rank_marked c.args.s.now c.args.g c.args.r c.missing_at-missing.ensures
