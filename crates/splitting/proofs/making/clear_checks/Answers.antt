-- `splitting::making::clear_checks` meets its contract.
use native.Mathlib.Omega.{arith}
use Rattle.splitting.proofs.Places.{wiping_start, wiping_turn, wiping_long}
use Rattle.splitting.proofs.making.clear_checks.Goals as goal

pub loop-c-init : goal.loop-c-init
loop-c-init c =
    (wiping_start _ _ c.requires.0, omega arith)

pub clear_unit-requires : goal.clear_unit-requires
clear_unit-requires c =
    (wiping_long _ _ c.requires.0 _ c.loop-c.invariant.0, omega (arith, c.loop-c-test.true, c.requires.1))

pub loop-c-preserved : goal.loop-c-preserved
loop-c-preserved c =
    (wiping_turn _ _ c.requires.0 _ c.loop-c.invariant.1 c.loop-c-test.true c.loop-c.invariant.0 c.clear_unit.ensures, omega (arith, c.loop-c.invariant.1))
