-- `reading::Place::copy_field` meets its contract.
use Rattle.std.proofs.Common.{◌+◌, ◌∙◌, sym, ap, refl, arith}
use Rattle.buffer.specs.Bytes.{byte}
use Rattle.group.specs.Widths.{key_bytes, field_bytes}
use Rattle.model.specs.Layout.{slot_at}
use Rattle.lookup.specs.SizedLaws.{slot_fits}
use Rattle.lookup.specs.States.{state_byte}
use Rattle.lookup.specs.Groups.{Rebuildable}
use Rattle.lookup.specs.GroupLaws.{readable_out, readable_rank, readable_counted, missing_out, missing_rank}
use Rattle.soundness.specs.SurveyLaws.{group_counts}
use Rattle.lookup.specs.SlotLaws.{decoder_low, decoder_small, field_own, field_out}
use Rattle.buffer.specs.SpliceLaws.{part_lent}
use Rattle.reading.proofs.place.Place.copy_field.Goals as goal
use Rattle.reading.proofs.place.Place.copy_field.Goals.{After-new-products}

-- where the unit is out, the record is missing
missing : (c : After-new-products) → Rebuildable c.args.self.now.survey.store.now c.args.self.now.unit c.args.self.now.rank
missing c = readable_out c.args.self.now.there (state_byte _ _ ∙ sym c.state.ensures ∙ c.if-state-eq-OUT.true)

pub decoder_at-decoder-requires : goal.decoder_at-decoder-requires
decoder_at-decoder-requires c =
    let m = missing (goal.at.decoder_at-decoder-requires c).After-new-products in
    (m, readable_counted c.args.self.now.there (group_counts c.args.self.now.survey.surveyed refl _ (omega (arith, m.unit))) (missing_out m))

pub rebuild_field-requires : goal.rebuild_field-requires
rebuild_field-requires c =
    let m = missing (goal.at.rebuild_field-requires c).After-new-products in
    let decoder = c.decoder_at-decoder.ensures in
    (c.requires, m.sized, omega (arith, m.unit), missing_rank m, decoder_low m decoder, decoder_small m decoder)

pub slice_bounds-copy_from_slice-end : goal.slice_bounds-copy_from_slice-end
slice_bounds-copy_from_slice-end c =
    let p = c.args.self.now.there in
    omega (arith, slot_fits p.sized _ _ p.unit (readable_rank p))

pub returns-then-state-eq-OUT : goal.returns-then-state-eq-OUT
returns-then-state-eq-OUT c =
    field_out (missing (goal.at.returns-then-state-eq-OUT c).After-new-products) c.decoder_at-decoder.ensures _ c.rebuild_field.ensures

pub returns-else-state-eq-OUT : goal.returns-else-state-eq-OUT
returns-else-state-eq-OUT c =
    let p = c.args.self.now in
    let s = p.survey.store.now in
    c.copy_from_slice.ensures.after
    ∙ part_lent s (c.slot_at-at.result + key_bytes) field_bytes (slot_at (byte s 5) p.unit p.rank + key_bytes) (ap (λ i. i + key_bytes) c.slot_at-at.ensures.0)
    ∙ field_own s p.unit p.rank (λ h. c.if-state-eq-OUT.false (c.state.ensures ∙ sym (state_byte s p.unit) ∙ h))
