-- `writing::erase_at` meets its contract.
use native.Mathlib.Nat.{add-sub_cancel_left}
use mathlib.Core.Path.{refl, ◌∙◌}
use Rattle.buffer.specs.Bytes.{zeros, part}
use Rattle.model.specs.StoreLaws.{slot_lent}
use Rattle.writing.proofs.Written.{written_in, erased_bytes}
use borrow.Author.Rules.{rules}
use Rattle.writing.proofs.erase_at.Goals as goal

pub write_slot-requires-2 : goal.write_slot-requires-2
write_slot-requires-2 c =
    written_in _ _ _ _ _ c.requires.0 (search rules) c.write_slot.ensures _ c.requires.1

pub returns : goal.returns
unfolding zeros part
returns c =
    erased_bytes _ _ _ _ _ _ _ c.requires.0 c.requires.1 (search rules)
    (c.copy_from_slice.ensures.after ∙ simp add-sub_cancel_left (slot_lent _ _ _ _ _ refl c.slot_at-from.ensures.0))
    c.write_slot.ensures c.write_slot-2.ensures
