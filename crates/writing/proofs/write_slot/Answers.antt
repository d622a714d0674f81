-- `writing::write_slot` meets its contract.
use native.Mathlib.Nat.{add-sub_cancel_left}
use mathlib.Core.Path.{◌≡◌, refl, ◌∙◌}
use lib.ListN.{length}
use Rattle.buffer.specs.Bytes.{part, splice}
use Rattle.group.specs.Widths.{slot_bytes}
use Rattle.writing.proofs.Following.{followed_written}
use Rattle.writing.proofs.Written.{slot_change}
use borrow.Author.Rules.{rules}
use Rattle.writing.proofs.write_slot.Goals as goal

pub returns : goal.returns
unfolding part splice
returns c =
    let a = c.args in
    let slot = a.slot in
    let long : length slot ≡ slot_bytes = search (rules, c.well_formed.1.1.1.0) in
    followed_written a.s.now _ _ slot _ _ _ _ _ _ c.requires long refl c.slot_at-at.ensures.0
    c.key_of.ensures
    (c.change_of-change.ensures ∙ slot_change a.s.now slot _ _ _ _ c.requires long refl c.slot_at-at.ensures.0)
    c.follow_checks.ensures
    (rw c.copy_from_slice.ensures.after (simp add-sub_cancel_left))
