-- `reading::Records::write` meets its contract.
use Rattle.std.proofs.Common.{◌≡◌, ℕ, ◌+◌, ◌*◌, ◌≤◌, ◌∙◌, length, ap, arith}
use Rattle.buffer.specs.Bytes.{splice}
use Rattle.buffer.specs.LoopWrites.{appending_start, appending_turn, appending_end}
use Rattle.buffer.specs.SpliceLaws.{length_lent, put_lent}
use Rattle.group.specs.Widths.{slot_bytes}
use Rattle.model.specs.Layout.{view}
use Rattle.model.specs.Reads.{listed_fill, total_in}
use Rattle.reading.proofs.Verdicts.{fill_at}
use Rattle.reading.proofs.Lists.{records_long, records_fit, listing_is}
use Rattle.reading.proofs.records.Records.write.Goals as goal
use Rattle.reading.proofs.records.Records.write.Goals.{After-from-in-loop-u}

pub loop-u-init : goal.loop-u-init
loop-u-init c =
    appending_start

-- ---- what is known of a turn: how many records the unit has, and that they fit
fill : (c : After-from-in-loop-u) → c.from-in-loop-u.result ≡ listed_fill (view c.args.self.now.survey.store.now) c.loop-u.u
fill c = let self = c.args.self.now in c.from-in-loop-u.ensures ∙ fill_at self.survey.surveyed self.whole c.loop-u.u c.from.ensures c.loop-u-test.true

fits : (c : After-from-in-loop-u) → c.loop-u.at + slot_bytes * c.from-in-loop-u.result ≤ length c.args.out.now
fits c =
    let self = c.args.self.now in
    let n = c.from-in-loop-u.ensures ∙ fill_at self.survey.surveyed self.whole c.loop-u.u c.from.ensures c.loop-u-test.true in
    let room : slot_bytes * total_in (view self.survey.store.now) ≤ length c.args.out.now = omega (arith, self.counted) in
    omega (arith, c.loop-u.invariant.place, records_fit self.whole c.loop-u.u _ _ c.loop-u-test.true n room)

pub overflow_add-end : goal.overflow_add-end
overflow_add-end c =
    omega (arith, fits (goal.at.overflow_add-end c).After-from-in-loop-u)

pub slice_bounds-copy_unit-end : goal.slice_bounds-copy_unit-end
slice_bounds-copy_unit-end c =
    omega (arith, c.loop-u.invariant.long, fits (goal.at.slice_bounds-copy_unit-end c).After-from-in-loop-u)

pub copy_unit-requires : goal.copy_unit-requires
copy_unit-requires c =
    let here = (goal.at.copy_unit-requires c).After-from-in-loop-u in
    let l = c.loop-u in (
      c.loop-u-test.true,
      length_lent l.out l.at (slot_bytes * c.from-in-loop-u.result) (omega (arith, l.invariant.long, fits here)) ∙ ap (λ (n : ℕ). slot_bytes * n) (fill here),
    )

pub loop-u-preserved : goal.loop-u-preserved
loop-u-preserved c =
    let here = (goal.at.loop-u-preserved c).After-from-in-loop-u in
    let l = c.loop-u in
    let w : ℕ = slot_bytes * c.from-in-loop-u.result in
    appending_turn w l.invariant c.loop-u-test.true (omega (arith, fill here, records_long c.args.self.now.whole l.u c.loop-u-test.true))
    (omega (arith, l.invariant.long, fits here))
    (put_lent l.out _ l.at w ∙ ap (λ x. splice l.at w x l.out) c.copy_unit.ensures)

pub returns : goal.returns
returns c =
    listing_is _ _ _ (appending_end c.loop-u.invariant c.loop-u-test.false)
