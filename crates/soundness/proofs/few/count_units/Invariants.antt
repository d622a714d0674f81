use Rattle.soundness.specs.Pieces.{unit_good}
use Rattle.soundness.proofs.Counting.{Tallying}
use Rattle.soundness.proofs.few.count_units.Given as goal

abbrev pub invariant-loop-u : goal.invariant-loop-u
invariant-loop-u l =
    Tallying l.header.store.now (unit_good l.header.store.now) l.fills l.u
