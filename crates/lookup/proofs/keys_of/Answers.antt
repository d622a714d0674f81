-- `lookup::keys_of` meets its contract.
use mathlib.Core.Path.{sym, ◌∙◌}
use borrow.Author.Tests.{eq-eqb, ne_eqb}
use Rattle.buffer.specs.ChoiceLaws.{pick_true, pick-false}
use Rattle.lookup.specs.States.{state_byte}
use Rattle.lookup.specs.Keys.{keys_from, keys_step}
use Rattle.lookup.proofs.keys_of.Goals as goal

pub returns-then-state-eq-OUT : goal.returns-then-state-eq-OUT
unfolding keys_from keys_step
returns-then-state-eq-OUT c =
    let out = eq-eqb _ 2 (state_byte c.args.s.now c.args.u ∙ sym c.state.ensures ∙ c.if-state-eq-OUT.true) in
    (c.keys_at.ensures ∙ sym (pick_true out _ _), sym (pick_true out _ _))

pub returns : goal.returns
unfolding keys_from keys_step
returns c =
    let serves = ne_eqb _ 2 (λ h. c.if-state-eq-OUT.false (c.state.ensures ∙ sym (state_byte c.args.s.now c.args.u) ∙ h)) in
    (c.slot_at.ensures.0 ∙ sym (pick-false serves _ _), sym (pick-false serves _ _))
