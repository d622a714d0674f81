-- `encoding::keys_of_rank` meets its contract.
use Prim.Native.Nat.{◌+◌, ◌*◌}
use mathlib.Core.Path.{◌≡◌, sym}
use native.Mathlib.Omega.{arith}
use native.Mathlib.Nat.{add-sub_cancel_left}
use Rattle.buffer.specs.Bytes.{part, splice}
use Rattle.buffer.specs.LoopWrites.{appending_start, appending_turn}
use Rattle.group.specs.Widths.{key_bytes}
use Rattle.encoding.proofs.Ranks.{slot_parts, key_wide}
use Rattle.encoding.proofs.keys_of_rank.Goals as goal

pub loop-p-init : goal.loop-p-init
loop-p-init c =
    appending_start

pub loop-p-preserved : goal.loop-p-preserved
unfolding part splice
loop-p-preserved c =
    let p = c.loop-p.p in
    let next : 4 * (p + 1) ≡ 4 * p + 4 = omega arith in
    let q = slot_parts c.args.s.now (4 * c.args.g + p) c.args.r _ c.slot_at-from.ensures.0 in
    rw next (appending_turn key_bytes c.loop-p.invariant c.loop-p-test.true (sym (key_wide c.requires p c.loop-p-test.true)) (omega (arith, c.loop-p.invariant.long))
    (rw (c.copy_from_slice.ensures.after, q.0) (simp (add-sub_cancel_left, c.from-at.ensures))))
