-- `field256::Logarithms::new`: the constant is the list of powers, which the prover computes, and each power's logarithm is written at its place.
use mathlib.Core.Path.{refl}
use Rattle.algebra.specs.Binary.{times, remainder, product_in}
use Rattle.algebra.specs.BinaryPowers.{doublings}
use Rattle.field256.specs.Powers.{powers}
use Rattle.field256.proofs.Logging.{logging_start, place_at, logging_turn, logging_end}
use Rattle.field256.proofs.Logarithms.new.Goals as goal

pub overflow_sub-table : goal.overflow_sub-table
unfolding powers doublings product_in remainder times
overflow_sub-table c = (place_at _ refl c.loop-i.i c.from.result c.loop-i-test.true c.from.ensures).0

pub loop-i-preserved : goal.loop-i-preserved
unfolding powers doublings product_in remainder times
loop-i-preserved c =
    logging_turn _ c.loop-i.invariant c.loop-i-test.true (place_at _ refl c.loop-i.i c.from.result c.loop-i-test.true c.from.ensures).1 refl

pub invariant_of-result : goal.invariant_of-result
unfolding powers doublings product_in remainder times
invariant_of-result c = record { are = logging_end c.loop-i.invariant c.loop-i-test.false }
