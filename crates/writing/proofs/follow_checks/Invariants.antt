use Rattle.writing.proofs.Following.{Following}
use Rattle.writing.proofs.follow_checks.Given as goal

abbrev pub invariant-loop-j : goal.invariant-loop-j
invariant-loop-j l =
    Following l.initial.s l.u l.r l.key l.change l.s l.j
