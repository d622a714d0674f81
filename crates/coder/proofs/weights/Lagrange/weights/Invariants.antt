use lib.ListN.{get_or}
use Rattle.buffer.specs.LoopWrites.{Filling}
use Rattle.coder.specs.Weights.{weight_of}
use Rattle.coder.proofs.weights.Lagrange.weights.Given as goal

abbrev pub invariant-loop-i : goal.invariant-loop-i
invariant-loop-i l =
    Filling (λ k. weight_of l.self.points.now.list l.self.points.now.m l.q (get_or l.self.points.now.list k 0)) l.initial.weights l.weights l.i
