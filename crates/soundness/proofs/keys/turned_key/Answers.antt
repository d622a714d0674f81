-- `soundness::keys::turned_key` meets its contract.
use Rattle.soundness.specs.Keys.{turned_keys}
use Rattle.soundness.proofs.keys.turned_key.Goals as goal

pub returns : goal.returns
unfolding turned_keys
returns c =
    c.low32.ensures
