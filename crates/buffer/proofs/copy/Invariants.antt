use Rattle.buffer.specs.Bytes.{byte}
use Rattle.buffer.specs.LoopWrites.{Filling}
use Rattle.buffer.proofs.copy.Given as goal

abbrev pub invariant-loop-i : goal.invariant-loop-i
invariant-loop-i l =
    Filling (byte l.from) l.initial.into l.into l.i
