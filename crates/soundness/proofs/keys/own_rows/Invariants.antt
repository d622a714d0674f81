use Rattle.buffer.specs.LoopTests.{Passing}
use Rattle.soundness.specs.Keys.{own_row}
use Rattle.soundness.proofs.keys.own_rows.Given as goal

abbrev pub invariant-loop-r : goal.invariant-loop-r
invariant-loop-r l =
    Passing (own_row l.s l.list l.m l.u) l.n l.r
