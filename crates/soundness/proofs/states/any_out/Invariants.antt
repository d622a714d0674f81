use Prim.Native.Nat.{◌+◌, ◌/◌}
use lib.Dec.{eqb}
use Rattle.buffer.specs.Bytes.{byte}
use Rattle.buffer.specs.LoopTests.{Gathering}
use Rattle.soundness.proofs.states.any_out.Given as goal

abbrev pub invariant-loop-i : goal.invariant-loop-i
invariant-loop-i l =
    Gathering (λ k. eqb (byte l.s (8 + k) / 2) 0) 28 l.i l.any
