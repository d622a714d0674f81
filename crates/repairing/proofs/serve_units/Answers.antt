-- `repairing::serve_units` meets its contract.
use Prim.Native.Nat.{◌+◌, ◌*◌}
use native.Mathlib.Nat.{add-sub_cancel_left}
use native.Mathlib.Omega.{arith}
use Rattle.buffer.specs.Bytes.{part, splice}
use Rattle.repairing.proofs.Serving.{units_served}
use Rattle.repairing.proofs.serve_units.Goals as goal

pub returns : goal.returns
unfolding part splice
returns c =
    let w = c.from-group in
    units_served (8 + 4 * w.result) (24 + 3 * w.result) c.requires (omega (arith, w.ensures)) (omega (arith, w.ensures))
    (simp add-sub_cancel_left at c.put_in_service.ensures)
    (simp add-sub_cancel_left at c.put_in_service-2.ensures)
    (simp add-sub_cancel_left)
