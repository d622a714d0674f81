-- `soundness::checks::checks_good` meets its contract.
use native.Mathlib.Omega.{arith}
use Rattle.buffer.specs.LoopTests.{passing_start, passing_turn, passing_fail, passing_end}
use Rattle.soundness.specs.Pieces.{groups_in}
use mathlib.Core.Path.{sym, ◌∙◌}
use Rattle.soundness.proofs.checks.checks_good.Goals as goal

pub loop-c-init : goal.loop-c-init
loop-c-init c =
    passing_start

pub check_good-requires : goal.check_good-requires
check_good-requires c =
    let most = c.args.header.ranged.most in
    omega (arith, most, c.loop-c-test.true, c.units.ensures)

pub returns-then-not-check_good : goal.returns-then-not-check_good
unfolding groups_in
returns-then-not-check_good c =
    let l = c.loop-c-test.true in
    passing_fail c.loop-c.invariant (omega (arith, l, c.units.ensures)) (sym c.check_good.ensures ∙ c.if-not-check_good.true)

pub loop-c-preserved : goal.loop-c-preserved
unfolding groups_in
loop-c-preserved c =
    let l = c.loop-c-test.true in
    passing_turn c.loop-c.invariant (omega (arith, l, c.units.ensures)) (sym c.check_good.ensures ∙ c.if-not-check_good.false)

pub returns : goal.returns
unfolding groups_in
returns c =
    let l = c.loop-c-test.false in passing_end c.loop-c.invariant (omega (arith, l, c.units.ensures))
