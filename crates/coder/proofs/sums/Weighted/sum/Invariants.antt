use Rattle.coder.proofs.Weighing.{Weighing}
use Rattle.coder.proofs.sums.Weighted.sum.Given as goal

abbrev pub invariant-loop-b : goal.invariant-loop-b
invariant-loop-b l =
    Weighing l.self.len l.self.s.now l.self.points.now.list l.self.weights.now l.self.points.now.m l.acc l.b
