-- `soundness::unit::Unit::unkept` meets its contract.
use mathlib.Core.Path.{ap}
use lib.Dec.{eqb}
use Rattle.soundness.specs.Pieces.{unkept}
use Rattle.soundness.proofs.unit.Unit.unkept.Goals as goal
use Prim.Native.Nat.{◌+◌, ◌*◌, ◌/◌}

pub returns : goal.returns
unfolding unkept
returns c =
    ap (λ k. eqb k (3 * (c.args.self.number / 4) + 3)) c.args.self.kept.found
