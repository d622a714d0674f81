use Prim.Native.Nat.{◌+◌}
use lib.Dec.{eqb}
use Rattle.buffer.specs.Bytes.{byte}
use Rattle.buffer.specs.LoopTests.{Counting}
use Rattle.soundness.proofs.states.out_from.Given as goal

abbrev pub invariant-loop-i : goal.invariant-loop-i
invariant-loop-i l =
    Counting (λ k. eqb (byte l.s (l.at + k)) 2) l.n l.i l.out
