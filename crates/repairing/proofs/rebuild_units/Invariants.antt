use Rattle.repairing.proofs.Restoring.{Restoring}
use Rattle.repairing.proofs.rebuild_units.Given as goal

abbrev pub invariant-loop-p : goal.invariant-loop-p
invariant-loop-p l =
    Restoring l.initial.s l.degraded.group l.s l.p
