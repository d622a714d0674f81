use Prim.Native.Nat.{◌+◌, ◌*◌}
use lib.Dec.{eqb}
use Rattle.buffer.specs.LoopTests.{Missing}
use Rattle.buffer.specs.Bytes.{byte}
use Rattle.lookup.proofs.first_check.Given as goal

abbrev pub invariant-loop-j : goal.invariant-loop-j
invariant-loop-j l =
    Missing (λ i. eqb (byte l.s (24 + (3 * l.g + i))) 1) 3 l.j
