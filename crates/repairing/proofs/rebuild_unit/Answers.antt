-- `repairing::rebuild_unit` meets its contract.
use native.Mathlib.Nat.{add-sub_cancel_left}
use mathlib.Core.Path.{refl, ◌∙◌}
use native.Mathlib.Omega.{arith}
use Prim.Native.Nat.{◌<◌}
use lib.ListN.{length, get_or}
use Rattle.buffer.specs.Bytes.{part, splice}
use Rattle.model.specs.Layout.{view}
use Rattle.model.specs.Places.{data_units}
use Rattle.model.specs.LayoutLaws.{rank_within}
use Rattle.model.specs.Reads.{listed_fill}
use Rattle.lookup.specs.KeyLaws.{listed_fill_small}
use Rattle.repairing.proofs.Rebuilding.{unit_fill_lem, standing_keys, standing_counts, standing_missing, standing_decoder, next_decoder}
use Rattle.repairing.proofs.Rebuilding.{rebuilding_start, rebuilding_turn, rebuilding_end}
use Rattle.repairing.proofs.rebuild_unit.Goals as goal
use Rattle.repairing.proofs.rebuild_unit.Goals.{In-loop-r}

pub loop-r-init : goal.loop-r-init
loop-r-init c =
    (rebuilding_start c.requires.0, tt)

-- a key is listed for the rank of a turn
listed : (c : In-loop-r) → c.loop-r.r < listed_fill (view c.args.s.now) c.args.u
listed c = omega (arith, c.loop-r-test.true, unit_fill_lem c.requires.0 c.from.ensures)

pub next_decoder-decoder-requires : goal.next_decoder-decoder-requires
next_decoder-decoder-requires c =
    let inv = c.loop-r.invariant in
    let p = c.requires in
    (standing_missing p.0 inv.0 (listed (goal.at.next_decoder-decoder-requires c).In-loop-r), standing_counts p.0 inv.0, standing_decoder p.0 inv.0 _ inv.1)

pub rebuild_slot-requires : goal.rebuild_slot-requires
rebuild_slot-requires c =
    let inv = c.loop-r.invariant in
    let p = c.requires in
    let keys = standing_keys p.0 inv.0 c.keys_at-keys.ensures in
    (refl, standing_missing p.0 inv.0 (listed (goal.at.rebuild_slot-requires c).In-loop-r), c.next_decoder-decoder.ensures, keys)

pub slice_bounds-copy_from_slice-end : goal.slice_bounds-copy_from_slice-end
slice_bounds-copy_from_slice-end c =
    let rank : c.loop-r.r < get_or c.args.s.now 5 0 = omega (arith, listed (goal.at.slice_bounds-copy_from_slice-end c).In-loop-r, listed_fill_small c.args.s.now c.args.u) in
    let n = length c.args.s.now in
    omega (arith, rank_within data_units (get_or c.args.s.now 5 0) c.args.u c.loop-r.r n c.requires.0.unit rank c.requires.0.near.sized.long)

pub loop-r-preserved : goal.loop-r-preserved
unfolding part splice
loop-r-preserved c =
    let p = c.requires in (
      rebuilding_turn p.0 c.loop-r.invariant.0 (listed (goal.at.loop-r-preserved c).In-loop-r) c.slot_at-at.ensures.0 (c.copy_from_slice.ensures.after ∙ c.rebuild_slot.ensures)
          (simp add-sub_cancel_left),
      next_decoder p.0 c.loop-r.invariant.0 c.next_decoder-decoder.ensures,
    )

pub returns : goal.returns
returns c =
    let p = c.requires in
    rebuilding_end p.0 c.loop-r.invariant.0 (omega (arith, c.loop-r-test.false, unit_fill_lem p.0 c.from.ensures))
