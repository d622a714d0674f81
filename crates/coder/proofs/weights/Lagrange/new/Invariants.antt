use lib.ListN.{get_or}
use Rattle.buffer.specs.LoopWrites.{Filling}
use Rattle.coder.specs.Weights.{log_others}
use Rattle.coder.proofs.weights.Lagrange.new.Given as goal

abbrev pub invariant-loop-i : goal.invariant-loop-i
invariant-loop-i l =
    Filling (λ k. log_others (get_or l.points.list k 0) l.points.list l.points.m) l.initial.others l.others l.i
