use Prim.Native.Nat.{◌*◌}
use Rattle.buffer.specs.LoopTests.{Passing}
use Rattle.soundness.specs.Pieces.{groups_in, check_good}
use Rattle.soundness.proofs.checks.checks_good.Given as goal

abbrev pub invariant-loop-c : goal.invariant-loop-c
invariant-loop-c l =
    Passing (check_good l.header.store.now) (3 * groups_in l.header.store.now) l.c
