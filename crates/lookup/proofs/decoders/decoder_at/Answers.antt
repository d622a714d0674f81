-- `lookup::decoders::decoder_at` meets its contract.
use native.Mathlib.Omega.{arith}
use Rattle.group.proofs.RebuildingLaws.{members_within}
use Rattle.lookup.specs.GroupLaws.{missing_four}
use Rattle.lookup.proofs.decoders.decoder_at.Goals as goal

pub weights-weights-requires : goal.weights-weights-requires
weights-weights-requires c =
    let p = c.requires in
    (rw c.members-members.ensures (members_within (missing_four p.0)), omega arith)
