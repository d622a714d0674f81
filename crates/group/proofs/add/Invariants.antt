use lib.Bits.{bit_xor}
use Rattle.buffer.specs.Bytes.{byte}
use Rattle.buffer.specs.LoopWrites.{Filling}
use Rattle.group.proofs.add.Given as goal

abbrev pub invariant-loop-i : goal.invariant-loop-i
invariant-loop-i l =
    Filling (λ k. bit_xor (byte l.initial.into k) (byte l.x k)) l.initial.into l.into l.i
