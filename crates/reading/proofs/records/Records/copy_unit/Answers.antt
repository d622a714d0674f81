-- `reading::Records::copy_unit` meets its contract.
use Rattle.std.proofs.Common.{◌≤◌, ◌+◌, ◌*◌, ◌∙◌, ℕ, length, sym, ap, arith}
use Rattle.buffer.specs.Bytes.{byte, part}
use Rattle.buffer.specs.SpliceLaws.{part_lent}
use Rattle.group.specs.Widths.{slot_bytes}
use Rattle.model.specs.Layout.{view, slot_at}
use Rattle.model.specs.Reads.{listed_fill}
use Rattle.lookup.specs.SizedLaws.{slots_fit}
use Rattle.lookup.specs.States.{state_byte}
use Rattle.lookup.specs.KeyLaws.{listed_fill_small}
use Rattle.lookup.specs.SlotLaws.{own_slots}
use Rattle.reading.proofs.records.Records.copy_unit.Goals as goal
use Rattle.reading.proofs.records.Records.copy_unit.Goals.{After-slot_at-at}

pub rebuild_unit-requires : goal.rebuild_unit-requires
rebuild_unit-requires c =
    (c.requires.0, state_byte _ _ ∙ sym c.state.ensures ∙ c.if-state-eq-OUT.true, c.requires.1)

fits : (c : After-slot_at-at)
    → slot_at (byte c.args.self.now.survey.store.now 5) c.args.u 0 + slot_bytes * listed_fill (view c.args.self.now.survey.store.now) c.args.u ≤ length c.args.self.now.survey.store.now
fits c = let s = c.args.self.now.survey.store.now in slots_fit c.args.self.now.whole.sized c.args.u _ c.requires.0 (listed_fill_small s c.args.u)

pub slice_bounds-copy-end : goal.slice_bounds-copy-end
slice_bounds-copy-end c =
    omega (arith, fits (goal.at.slice_bounds-copy-end c).After-slot_at-at)

pub returns-else-state-eq-OUT : goal.returns-else-state-eq-OUT
returns-else-state-eq-OUT c =
    let s = c.args.self.now.survey.store.now in
    let u = c.args.u in
    let n = length c.args.out.now in
    c.copy.ensures
    ∙ part_lent s c.slot_at-at.result n (slot_at (byte s 5) u 0) c.slot_at-at.ensures.0
    ∙ ap (λ (n : ℕ). part (slot_at (byte s 5) u 0) n s) c.requires.1
    ∙ own_slots s u (listed_fill (view s) u) (λ h. c.if-state-eq-OUT.false (c.state.ensures ∙ sym (state_byte s u) ∙ h))
    (fits (goal.at.returns-else-state-eq-OUT c).After-slot_at-at)
