-- `reading::read_in_place` meets its contract.
use Rattle.std.proofs.Common.{◌∙◌, sym, arith}
use Rattle.lookup.specs.SizedLaws.{slot_fits}
use Rattle.lookup.specs.States.{state_byte}
use Rattle.lookup.specs.GroupLaws.{readable_rank}
use Rattle.reading.proofs.Answers.{nowhere, out_unit, stands, lent_nothing, lent_field}
use Rattle.reading.proofs.read_in_place.Goals as goal

pub returns-in_default : goal.returns-in_default
returns-in_default c =
    let none = lent_nothing _ _ (nowhere _ _ _ c.in_default.ensures) in
    record { answer = none.0; place = none.1.0; start = none.1.1 }

pub returns-then-state-eq-OUT : goal.returns-then-state-eq-OUT
returns-then-state-eq-OUT c =
    let none = lent_nothing _ _ (out_unit _ _ _ c.in-Ok.ensures.placed.home (state_byte _ _ ∙ sym c.state.ensures ∙ c.if-state-eq-OUT.true)) in
    record { answer = none.0; place = none.1.0; start = none.1.1 }

pub slice_bounds-result-end-2 : goal.slice_bounds-result-end-2
slice_bounds-result-end-2 c =
    let here = c.in-Ok.ensures.placed.there in
    omega (arith, slot_fits here.sized _ _ here.unit (readable_rank here))

pub returns : goal.returns
returns c =
    let s = c.args.s in
    let found = c.in-Ok.ensures in
    let there = stands _ _ _ _ found.given found.placed.home found.placed.found (λ h. c.if-state-eq-OUT.false (c.state.ensures ∙ sym (state_byte _ _) ∙ h)) in
    let lent = lent_field _ _ s.ref_ptr.0 s.ref_ptr.1 _ _ there c.slot_at-at.ensures.0 in
    record { answer = lent.0; place = lent.1.0; start = lent.1.1 }
