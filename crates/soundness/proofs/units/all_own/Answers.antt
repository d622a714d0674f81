-- `soundness::units::all_own` meets its contract.
use mathlib.Core.Path.{◌∙◌}
use native.Mathlib.Omega.{arith}
use Rattle.buffer.specs.Bytes.{byte}
use Rattle.buffer.specs.LoopTests.{passing_start, passing_turn, passing_fail, passing_end}
use Rattle.soundness.specs.Pieces.{own_listed}
use Rattle.soundness.proofs.Together.{by_groups}
use mathlib.Core.Path.{sym}
use Rattle.soundness.proofs.units.all_own.Goals as goal

pub loop-g-init : goal.loop-g-init
loop-g-init c =
    passing_start

pub group_own-requires : goal.group_own-requires
group_own-requires c =
    let most = c.args.header.ranged.most in
    (omega (arith, c.loop-g-test.true, c.units.ensures, most), c.requires)

pub returns-then-not-group_own : goal.returns-then-not-group_own
returns-then-not-group_own c =
    let s = c.args.header.store.now in
    passing_fail c.loop-g.invariant (omega (arith, c.loop-g-test.true, c.units.ensures)) (sym c.group_own.ensures ∙ c.if-not-group_own.true)
    ∙ by_groups (byte s 6) (own_listed s)

pub loop-g-preserved : goal.loop-g-preserved
loop-g-preserved c =
    passing_turn c.loop-g.invariant (omega (arith, c.loop-g-test.true, c.units.ensures)) (sym c.group_own.ensures ∙ c.if-not-group_own.false)

pub returns : goal.returns
returns c =
    let s = c.args.header.store.now in
    passing_end c.loop-g.invariant (omega (arith, c.loop-g-test.false, c.units.ensures)) ∙ by_groups (byte s 6) (own_listed s)
