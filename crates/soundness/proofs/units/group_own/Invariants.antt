use Rattle.buffer.specs.LoopTests.{Passing}
use Rattle.soundness.proofs.Together.{place_own, OwnUpTo}
use Rattle.soundness.proofs.units.group_own.Given as goal

abbrev pub invariant-loop-p : goal.invariant-loop-p
invariant-loop-p l =
    Passing (place_own l.header.store.now l.g) 4 l.p × OwnUpTo l.header.store.now l.g l.f
