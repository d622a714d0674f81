use Prim.Native.Nat.{◌-◌}
use lib.ListN.{length}
use Rattle.coder.proofs.Adding.{Adding}
use Rattle.coder.proofs.sums.Weighted.add_digit.Given as goal

abbrev pub invariant-loop-r : goal.invariant-loop-r
invariant-loop-r l =
    Adding (length l.initial.acc) l.self.s.now l.places l.k l.initial.acc l.acc l.r

abbrev pub decreases-loop-r : goal.decreases-loop-r
decreases-loop-r l =
    l.k - l.r
