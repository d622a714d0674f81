-- `group::parities::Rows::fill` meets its contract.
use borrow.Author.Rules.{rules}
use native.Mathlib.Omega.{arith}
use Rattle.buffer.specs.LoopWrites.{filling_start, filling_turn}
use Rattle.group.specs.Four.{four_bodies}
use Rattle.group.proofs.ParitySums.{parity_place, parity_filled}
use Rattle.group.proofs.parities.Rows.fill.Goals as goal

pub loop-i-init : goal.loop-i-init
loop-i-init c =
    (filling_start, filling_start, filling_start)

pub loop-i-preserved : goal.loop-i-preserved
unfolding four_bodies
loop-i-preserved c =
    let p = c.requires in
    let a = c.args in
    let place = parity_place a.a.now a.b.now a.c.now a.d.now p.3 p.4 p.5 p.6 c.loop-i.i c.loop-i-test.true in (
      filling_turn _ c.loop-i.invariant.0 (search rules) (place 0 _ (omega arith) c.mix.ensures),
      filling_turn _ c.loop-i.invariant.1 (search rules) (place 1 _ (omega arith) c.mix-in-loop-i.ensures),
      filling_turn _ c.loop-i.invariant.2 (search rules) (place 2 _ (omega arith) c.mix-in-loop-i-2.ensures),
    )

pub returns : goal.returns
returns c =
    let p = c.requires in
    let a = c.args in (
      parity_filled a.a.now a.b.now a.c.now a.d.now p.3 p.4 p.5 p.6 0 c.loop-i.invariant.0 p.0 c.loop-i-test.false,
      parity_filled a.a.now a.b.now a.c.now a.d.now p.3 p.4 p.5 p.6 1 c.loop-i.invariant.1 p.1 c.loop-i-test.false,
      parity_filled a.a.now a.b.now a.c.now a.d.now p.3 p.4 p.5 p.6 2 c.loop-i.invariant.2 p.2 c.loop-i-test.false,
    )
