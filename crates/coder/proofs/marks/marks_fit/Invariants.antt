use lib.Dec.{leb}
use lib.ListN.{length}
use Rattle.buffer.specs.Bytes.{byte}
use Rattle.buffer.specs.LoopTests.{Passing}
use Rattle.coder.proofs.marks.marks_fit.Given as goal

abbrev pub invariant-loop-mark : goal.invariant-loop-mark
invariant-loop-mark l =
    Passing (λ k. leb (byte l.marks k) 1) (length l.marks) l.mark-index
