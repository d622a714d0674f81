-- `coder::marks::marks_fit` meets its contract.
use borrow.Author.Tests.{le-leb, lt-leb}
use Rattle.buffer.specs.LoopTests.{passing_start, passing_turn, passing_fail, passing_end}
use Rattle.coder.specs.Segment.{marks_fit}
use Rattle.coder.proofs.marks.marks_fit.Goals as goal

pub loop-mark-init : goal.loop-mark-init
loop-mark-init c =
    passing_start

pub returns-then-mark-gt1 : goal.returns-then-mark-gt1
unfolding marks_fit
returns-then-mark-gt1 c =
    passing_fail c.loop-mark.invariant c.loop-mark-test.true (lt-leb _ _ c.if-mark-gt1.true)

pub loop-mark-preserved : goal.loop-mark-preserved
loop-mark-preserved c =
    passing_turn c.loop-mark.invariant c.loop-mark-test.true (le-leb _ _ c.if-mark-gt1.false)

pub returns : goal.returns
unfolding marks_fit
returns c =
    passing_end c.loop-mark.invariant c.loop-mark-test.false
