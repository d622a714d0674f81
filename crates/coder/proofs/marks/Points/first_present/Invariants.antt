use Rattle.coder.proofs.Choices.{Choosing}
use Rattle.coder.proofs.marks.Points.first_present.Given as goal

abbrev pub invariant-loop-c : goal.invariant-loop-c
invariant-loop-c l =
    Choosing l.marks l.list l.m l.c l.seen
