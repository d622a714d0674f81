-- `soundness::units::common_ranks` meets its contract.
use native.Mathlib.Omega.{arith}
use Rattle.soundness.proofs.Together.{common}
use Rattle.soundness.proofs.units.common_ranks.Goals as goal

pub returns : goal.returns
returns c =
    let two = c.min.ensures in
    let three = c.min-2.ensures in
    let four = c.min-3.ensures in
    common c.from-u.result c.from-u.ensures (omega (arith, two, three, four)) (omega (arith, two, three, four)) (omega (arith, three, four))
    (omega (arith, four)) c.if-k-g.false
