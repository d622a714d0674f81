-- `soundness::places::slots_at` meets its contract.
use native.Mathlib.Omega.{arith}
use Rattle.soundness.proofs.Located.{row_within}
use Rattle.soundness.proofs.places.slots_at.Goals as goal

pub returns : goal.returns
returns c =
    (c.slot_at.ensures.0, omega (arith, c.slot_at.ensures.0, row_within 16 c.args.u c.args.b c.requires))
