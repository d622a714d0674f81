-- `soundness::states::has_check` meets its contract.
use borrow.Author.Tests.{lt-ltb, le-ltb}
use Rattle.model.specs.Sound.{check_placed}
use Rattle.soundness.proofs.states.has_check.Goals as goal

pub returns-then-in_group : goal.returns-then-in_group
unfolding check_placed
returns-then-in_group c =
    rw (lt-ltb _ _ c.if-in_group.true)

pub returns-else-in_group : goal.returns-else-in_group
unfolding check_placed
returns-else-in_group c =
    rw (le-ltb _ _ c.if-in_group.false)
