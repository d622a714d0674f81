use Rattle.soundness.specs.Pieces.{served_or_lost}
use Rattle.soundness.proofs.Counting.{Tallying}
use Rattle.soundness.proofs.units.count_units.Given as goal

abbrev pub invariant-loop-u : goal.invariant-loop-u
invariant-loop-u l =
    Tallying l.header.store.now (served_or_lost l.header.store.now) l.fills l.u
