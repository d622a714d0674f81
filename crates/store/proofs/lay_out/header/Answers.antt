-- `lay_out::header` meets its contract.
use Rattle.std.specs.Int.{to_be_bytes}
use Rattle.buffer.specs.Bytes.{bytes32, zeros}
use Rattle.model.specs.Layout.{front_of}
use Rattle.store.proofs.lay_out.header.Goals as goal

pub returns : goal.returns
unfolding front_of bytes32 zeros
returns c =
    rw (c.copy_from_slice.ensures.after, c.to_be_bytes.ensures)
