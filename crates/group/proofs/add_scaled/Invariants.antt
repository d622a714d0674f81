use lib.Bits.{bit_xor}
use Rattle.buffer.specs.Bytes.{byte}
use Rattle.buffer.specs.LoopWrites.{Filling}
use Rattle.code.specs.Scaling.{scale}
use Rattle.group.proofs.add_scaled.Given as goal

abbrev pub invariant-loop-i : goal.invariant-loop-i
invariant-loop-i l =
    Filling (λ k. bit_xor (byte l.initial.parity k) (scale l.symbol (byte l.body k))) l.initial.parity l.parity l.i
