-- `lookup::losses::check_states` meets its contract.
use Prim.Native.Nat.{◌+◌, ◌*◌}
use native.Mathlib.Omega.{arith}
use Rattle.lookup.specs.Parts.{handed_back}
use Rattle.lookup.proofs.losses.check_states.Goals as goal

pub returns : goal.returns
returns c =
    let a = c.args in
    let lent = handed_back a.s.now _ _ (24 + 3 * c.from.result) 3 (24 + 3 * a.g) (omega arith) in
    record { bytes = lent.0; start = lent.1 }
