-- `splitting::raising::add_checks` meets its contract.
use native.Mathlib.Omega.{arith}
use Rattle.encoding.specs.Holding.{holds_long}
use Rattle.splitting.proofs.Raised.{adding_start, adding_turn}
use Rattle.splitting.proofs.raising.add_checks.Goals as goal

pub loop-g-init : goal.loop-g-init
loop-g-init c =
    adding_start c.args.s.now c.args.m c.args.k c.requires.0

pub add_check-requires : goal.add_check-requires
add_check-requires c =
    (holds_long c.loop-g.invariant.holds, omega (arith, c.loop-g-test.true, c.requires.1, c.requires.2))

pub loop-g-preserved : goal.loop-g-preserved
loop-g-preserved c =
    adding_turn c.args.s.now c.args.m c.args.k c.requires.0 c.loop-g.invariant c.requires.2 (omega (arith, c.loop-g-test.true)) c.add_check.ensures
