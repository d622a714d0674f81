-- `encoding::make_unit` meets its contract.
use mathlib.Core.Path.{refl}
use Rattle.encoding.specs.Made.{is_unit}
use Rattle.encoding.proofs.RankLoop.{making_start, making_turn, making_end}
use Rattle.encoding.proofs.make_unit.Goals as goal

pub loop-r-init : goal.loop-r-init
loop-r-init c =
    making_start (is_unit c.args.c) c.requires.0

pub loop-r-preserved : goal.loop-r-preserved
loop-r-preserved c =
    making_turn c.loop-r.invariant (is_unit c.args.c) (λ d a. refl) c.loop-r-test.true c.make_record.ensures

pub returns : goal.returns
returns c =
    making_end c.loop-r.invariant c.loop-r-test.false
