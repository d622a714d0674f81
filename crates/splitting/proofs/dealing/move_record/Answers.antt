-- `splitting::dealing::move_record` meets its contract.
use native.Mathlib.Nat.{add-sub_cancel_left}
use Rattle.buffer.specs.Bytes.{part, splice}
use Rattle.model.specs.Layout.{view}
use Rattle.splitting.proofs.dealing.move_record.Goals as goal

pub returns : goal.returns
unfolding view part splice
returns c =
    rw (c.copy_from_slice-2.ensures.after, c.copy_from_slice.ensures.after, c.slot_at-to.ensures.0, c.slot_at-from.ensures.0) (simp add-sub_cancel_left)
