use Rattle.repairing.proofs.Remaking.{Remaking}
use Rattle.repairing.proofs.make_units.Given as goal

abbrev pub invariant-loop-j : goal.invariant-loop-j
invariant-loop-j l =
    Remaking l.initial.s l.g l.s l.j
