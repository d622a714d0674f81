-- `soundness::places::checks_at` meets its contract.
use native.Mathlib.Omega.{arith}
use Rattle.soundness.proofs.Located.{row_within}
use Rattle.soundness.proofs.places.checks_at.Goals as goal

pub returns : goal.returns
returns c =
    (c.check_at.ensures.0, omega (arith, c.check_at.ensures.0, row_within 12 c.args.c c.args.b c.requires))
