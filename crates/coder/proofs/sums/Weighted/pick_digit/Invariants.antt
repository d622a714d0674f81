use Rattle.coder.proofs.Picking.{Picking}
use Rattle.coder.proofs.sums.Weighted.pick_digit.Given as goal

abbrev pub invariant-loop-i : goal.invariant-loop-i
invariant-loop-i l =
    Picking l.self.len l.self.s.now l.self.points.now.list l.self.weights.now l.b l.self.points.now.m l.places l.k l.i
