-- `soundness::places::zero_between` meets its contract.
use Rattle.buffer.specs.Bytes.{part}
use Rattle.soundness.specs.Pieces.{zero_between}
use Rattle.soundness.proofs.places.zero_between.Goals as goal

pub returns : goal.returns
unfolding zero_between part
returns c =
    c.is_zero.ensures
