use Prim.Native.Nat.{◌+◌}
use lib.Dec.{eqb}
use Rattle.buffer.specs.Bytes.{byte}
use Rattle.buffer.specs.LoopTests.{Gathering}
use Rattle.buffer.proofs.is_zero_long.Given as goal

abbrev pub invariant-loop-i : goal.invariant-loop-i
invariant-loop-i l =
    Gathering (λ k. eqb (byte l.s k) 0) l.half l.i l.first × Gathering (λ k. eqb (byte l.s (l.front + k)) 0) l.half l.i l.second
