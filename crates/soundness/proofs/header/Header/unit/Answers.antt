-- `soundness::header::Header::unit` meets its contract.
use Rattle.soundness.proofs.Endings.{kept_here}
use Rattle.soundness.proofs.header.Header.unit.Goals as goal

pub invariant_of-result : goal.invariant_of-result
invariant_of-result c =
    record { octets = c.args.self.now.octets; ranged = c.args.self.now.ranged; kept = kept_here _ _ c.first_check.ensures; few = c.requires }
