use Rattle.buffer.specs.LoopWrites.{Filling}
use Rattle.code.specs.Scaling.{scale}
use Rattle.group.proofs.parities.scaled_row.Given as goal

abbrev pub invariant-loop-i : goal.invariant-loop-i
invariant-loop-i l =
    Filling (scale l.w) l.initial.row l.row l.i
