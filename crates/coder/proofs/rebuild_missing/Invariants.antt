use lib.ListN.{length}
use Rattle.coder.proofs.Rebuilding.{Rebuilding}
use Rattle.coder.proofs.rebuild_missing.Given as goal

abbrev pub invariant-loop-c : goal.invariant-loop-c
invariant-loop-c l =
    Rebuilding l.lagrange.points.now.m l.initial.marks (length l.initial.scratch) l.initial.members l.members l.marks l.scratch l.c
