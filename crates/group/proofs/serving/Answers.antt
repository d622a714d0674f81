-- `group::serving` meets its contract.
use mathlib.Core.Path.{sym, ap, ◌∙◌}
use mathlib.Core.Bool.{not}
use lib.Dec.{eqb}
use borrow.Author.Tests.{lt-ltb, le-ltb}
use Rattle.buffer.specs.ChoiceLaws.{pick_true, pick-false}
use Rattle.group.specs.Members.{serves}
use Rattle.group.proofs.serving.Goals as goal

pub returns-then-member-lt4 : goal.returns-then-member-lt4
unfolding serves
returns-then-member-lt4 c =
    ap (λ x. not (eqb x 1)) (rw c.from.ensures at c.byte_at.ensures) ∙ sym (pick_true (lt-ltb _ 4 c.if-member-lt4.true) _ _)

pub returns-else-member-lt4 : goal.returns-else-member-lt4
unfolding serves
returns-else-member-lt4 c =
    ap (λ x. eqb x 1) (rw c.from-else-member-lt4.ensures at c.byte_at-else-member-lt4.ensures) ∙ sym (pick-false (le-ltb _ 4 c.if-member-lt4.false) _ _)
