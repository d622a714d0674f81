-- `coder::weights::Lagrange::weights` meets its contract.
use native.Mathlib.Omega.{arith}
use borrow.Author.Rules.{rules}
use Rattle.buffer.specs.LoopWrites.{filling_start, filling_turn, filling_written}
use Rattle.coder.proofs.Logs.{sum_bounded, taken_le, weight_is}
use Rattle.coder.proofs.weights.Lagrange.weights.Goals as goal

pub overflow_add-all : goal.overflow_add-all
overflow_add-all c =
    omega (arith, sum_bounded _ _ _ _ c.log_others-all.ensures)

pub loop-i-init : goal.loop-i-init
loop-i-init c =
    filling_start

pub overflow_add-own : goal.overflow_add-own
overflow_add-own c =
    let self = c.args.self.now in
    omega (arith, taken_le c.loop-i.i _ self.known c.loop-i-test.true self.points.now.group c.log-own.ensures.1)

pub overflow_sub-all : goal.overflow_sub-all
overflow_sub-all c =
    let self = c.args.self.now in
    omega (arith, taken_le c.loop-i.i _ self.known c.loop-i-test.true self.points.now.group c.log-own.ensures.1)

pub loop-i-preserved : goal.loop-i-preserved
loop-i-preserved c =
    let self = c.args.self.now in
    let under = c.loop-i-test.true in
    filling_turn _ c.loop-i.invariant (search rules)
    (weight_is c.loop-i.i _ self.known under c.args.q _ _ c.log_others-all.ensures (c.requires.away c.loop-i.i under) c.log-own.ensures.0
    (taken_le c.loop-i.i _ self.known under self.points.now.group c.log-own.ensures.1) c.power.ensures)

pub returns : goal.returns
returns c =
    record { are = λ k l. filling_written c.loop-i.invariant k (omega (arith, c.loop-i-test.false)) }
