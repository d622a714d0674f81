use Rattle.planning.proofs.Dealing.{Dealing}
use Rattle.planning.proofs.dealt.Given as goal

abbrev pub invariant-loop-r : goal.invariant-loop-r
invariant-loop-r l =
    Dealing l.s l.count l.plan l.leaving l.r
