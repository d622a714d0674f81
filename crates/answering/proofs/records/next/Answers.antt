-- `records::next` meets its contract.
use mathlib.Core.Path.{sym, ◌∙◌}
use native.Mathlib.Numerals.{add-one}
use borrow.Author.Tests.{eq-eqb, ne_eqb}
use Rattle.buffer.specs.ChoiceLaws.{pick_true, pick-false, pick_same}
use Rattle.answering.specs.Places.{rank_behind}
use Rattle.answering.proofs.records.next.Goals as goal

pub returns-in-Some : goal.returns-in-Some
unfolding rank_behind
returns-in-Some c =
    let unit = c.unit_of-unit.ensures.0 in
    (unit, rw c.in-Some.is (add-one _ ∙ sym (pick_true (eq-eqb _ _ (sym (c.if-place-unit.true ∙ unit))) _ _)))

pub returns-in_default : goal.returns-in_default
unfolding rank_behind
returns-in_default c =
    let unit = c.unit_of-unit.ensures.0 in
    (unit, rw c.in-Some.is (sym (pick-false (ne_eqb _ _ (λ e. c.if-place-unit.false (sym (unit ∙ e)))) _ _)))

pub returns-in_default-2 : goal.returns-in_default-2
unfolding rank_behind
returns-in_default-2 c =
    (c.unit_of-unit.ensures.0, rw c.in_default.is (sym (pick_same _ 1)))
