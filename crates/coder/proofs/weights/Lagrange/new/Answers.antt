-- `coder::weights::Lagrange::new` meets its contract.
use native.Mathlib.Omega.{arith}
use borrow.Author.Rules.{rules}
use Rattle.buffer.specs.LoopWrites.{filling_start, filling_turn, filling_written}
use Rattle.coder.proofs.weights.Lagrange.new.Goals as goal

pub loop-i-init : goal.loop-i-init
loop-i-init c =
    filling_start

pub loop-i-preserved : goal.loop-i-preserved
loop-i-preserved c =
    filling_turn _ c.loop-i.invariant (search rules) c.log_others.ensures

pub invariant_of-result : goal.invariant_of-result
invariant_of-result c =
    record { known = record { logs = λ k l. filling_written c.loop-i.invariant k (omega (arith, c.loop-i-test.false)) } }
