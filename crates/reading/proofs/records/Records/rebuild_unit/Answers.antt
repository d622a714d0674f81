-- `reading::Records::rebuild_unit` meets its contract.
use Rattle.std.proofs.Common.{◌≡◌, ◌<◌, ◌≤◌, ◌+◌, ◌*◌, ◌∙◌, ℕ, length, refl, sym, ap, arith}
use Rattle.buffer.specs.Bytes.{splice}
use Rattle.buffer.specs.LoopWrites.{appending_start, appending_turn, appended_all}
use Rattle.buffer.specs.SpliceLaws.{length_lent, put_lent}
use Rattle.group.specs.Widths.{slot_bytes}
use Rattle.model.specs.Layout.{view}
use Rattle.model.specs.Reads.{listed_fill}
use Rattle.lookup.specs.Groups.{Rebuildable}
use Rattle.lookup.specs.GroupLaws.{readable_out, whole_readable}
use Rattle.lookup.specs.DecoderLaws.{next_rank}
use Rattle.lookup.specs.SlotLaws.{length_missing}
use Rattle.soundness.specs.SurveyLaws.{first_check_read}
use Rattle.reading.proofs.Verdicts.{fill_at}
use Rattle.reading.proofs.Lists.{group_counted, records_long}
use Rattle.reading.proofs.records.Records.rebuild_unit.Goals as goal
use Rattle.reading.proofs.records.Records.rebuild_unit.Goals.{In-loop-r}

pub keys_at-keys-requires : goal.keys_at-keys-requires
keys_at-keys-requires c =
    let self = c.args.self.now in
    (self.whole.sized, first_check_read self.survey.surveyed refl _ c.from.ensures (omega (arith, c.requires.0)))

pub loop-r-init : goal.loop-r-init
loop-r-init c =
    (appending_start, tt)

-- ---- what is known of a turn: the rank is listed, so its record is missing, and has a slot of the buffer
listed : (c : In-loop-r) → c.loop-r.r < listed_fill (view c.args.self.now.survey.store.now) c.args.u
listed c =
    let self = c.args.self.now in
    omega (arith, c.loop-r-test.true, fill_at self.survey.surveyed self.whole c.args.u c.from-2.ensures c.requires.0)

missing : (c : In-loop-r) → Rebuildable c.args.self.now.survey.store.now c.args.u c.loop-r.r
missing c = readable_out (whole_readable c.args.self.now.whole c.args.u c.requires.0 c.loop-r.r (listed c)) c.requires.1

room : (c : In-loop-r) → slot_bytes * c.loop-r.r + slot_bytes ≤ length c.loop-r.out
room c = omega (arith, listed c, c.loop-r.invariant.0.long, c.requires.2)

pub next_decoder-decoder-requires : goal.next_decoder-decoder-requires
next_decoder-decoder-requires c =
    let self = c.args.self.now in
    (missing (goal.at.next_decoder-decoder-requires c).In-loop-r, group_counted self.survey.surveyed self.whole c.args.u c.requires.0, c.loop-r.invariant.1)

pub slice_bounds-rebuild_slot-end : goal.slice_bounds-rebuild_slot-end
slice_bounds-rebuild_slot-end c =
    omega (arith, c.from-at.ensures, room (goal.at.slice_bounds-rebuild_slot-end c).In-loop-r)

pub rebuild_slot-requires : goal.rebuild_slot-requires
rebuild_slot-requires c =
    let here = (goal.at.rebuild_slot-requires c).In-loop-r in (
      length_lent c.loop-r.out (slot_bytes * c.from-at.result) slot_bytes (omega (arith, c.from-at.ensures, room here)),
      missing here,
      c.next_decoder-decoder.ensures,
      c.keys_at-keys.ensures,
    )

pub loop-r-preserved : goal.loop-r-preserved
loop-r-preserved c =
    let here = (goal.at.loop-r-preserved c).In-loop-r in
    let o = c.loop-r.out in
    let at : ℕ = slot_bytes * c.from-at.result in
    let place : at ≡ slot_bytes * c.loop-r.r = omega (arith, c.from-at.ensures) in
    let next : slot_bytes * c.loop-r.r + slot_bytes ≡ slot_bytes * (c.loop-r.r + 1) = omega arith in
    let written =
    put_lent o c.rebuild_slot.new.out at slot_bytes
    ∙ ap (λ (i : ℕ). splice i slot_bytes c.rebuild_slot.new.out o) place
    ∙ ap (λ x. splice (slot_bytes * c.loop-r.r) slot_bytes x o) c.rebuild_slot.ensures in (
      rw (← next) (appending_turn slot_bytes c.loop-r.invariant.0 (listed here) (sym (length_missing (missing here))) (room here) written),
      next_rank c.next_decoder-decoder.ensures,
    )

pub returns : goal.returns
returns c =
    let self = c.args.self.now in
    let n = fill_at self.survey.surveyed self.whole c.args.u c.from-2.ensures c.requires.0 in
    appended_all c.loop-r.invariant.0 (omega (arith, n, c.loop-r-test.false)) (c.requires.2 ∙ sym (records_long self.whole c.args.u c.requires.0))
