use Rattle.buffer.specs.LoopTests.{Gathering}
use Rattle.soundness.specs.Pieces.{check_fits}
use Rattle.soundness.proofs.states.checks_unfit.Given as goal

abbrev pub invariant-loop-c : goal.invariant-loop-c
invariant-loop-c l =
    Gathering (check_fits l.s) 12 l.c l.any
