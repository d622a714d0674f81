-- `writing::slot_of` meets its contract.
use Rattle.std.proofs.lemmas.List.{append-nil}
use Rattle.buffer.specs.Bytes.{bytes32}
use Rattle.model.specs.Layout.{slot_of}
use Rattle.writing.proofs.slot_of.Goals as goal

pub returns : goal.returns
unfolding slot_of bytes32
returns c =
    rw (c.copy_from_slice.ensures.after, c.put32.ensures) (simp append-nil)
