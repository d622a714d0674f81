-- `soundness::absent::zero_stretch` meets its contract.
use Rattle.buffer.specs.Bytes.{part}
use Rattle.soundness.specs.Pieces.{zero_between}
use Rattle.soundness.proofs.absent.zero_stretch.Goals as goal

pub returns : goal.returns
unfolding zero_between part
returns c =
    c.is_zero_long.ensures
