use Rattle.buffer.specs.LoopTests.{Gathering}
use Rattle.soundness.specs.Pieces.{data_fits}
use Rattle.soundness.proofs.states.units_unfit.Given as goal

abbrev pub invariant-loop-u : goal.invariant-loop-u
invariant-loop-u l =
    Gathering (data_fits l.s) 16 l.u l.any
