-- `splitting::dealing::deal_out` meets its contract.
use borrow.Author.Tests.{eq-eqb, ne_eqb}
use native.Mathlib.Omega.{arith}
use Rattle.encoding.specs.Holding.{holds_step, holds_five, holds_long}
use Rattle.splitting.proofs.StepLaws.{cleared_change}
use Rattle.splitting.proofs.DealLoop.{dealing_start, deal_goes, deal_stays, dealing_end}
use Rattle.splitting.proofs.dealing.deal_out.Goals as goal
use Rattle.splitting.proofs.dealing.deal_out.Goals.{then-unit_of-m, else-unit_of-m}

pub loop-t-init : goal.loop-t-init
loop-t-init c =
    dealing_start c.args.s.now _ _ _ c.requires.0 c.requires.1

pub loop-t-preserved : goal.loop-t-preserved
loop-t-preserved c =
    let taken = c.loop-t-test.true in
    elim c.if-unit_of-m.branch [
      | then-unit_of-m w ↦ rw (w.s-is, w.kept-is, w.gone-is) (deal_goes c.args.s.now _ _ _ c.requires.0 c.requires.1 c.loop-t.invariant taken
          c.key_at-key.ensures c.unit_of.ensures.0 (eq-eqb _ _ w.if-unit_of-m.true) w.move_record.ensures)
      | else-unit_of-m w ↦ rw (w.s-is, w.kept-is, w.gone-is) (deal_stays c.args.s.now _ _ _ c.requires.0 c.requires.1 c.loop-t.invariant taken
          c.key_at-key.ensures c.unit_of.ensures.0 (ne_eqb _ _ w.if-unit_of-m.false) w.move_record-else-unit_of-m.ensures)
    ]

pub clear_from-requires-2 : goal.clear_from-requires-2
clear_from-requires-2 c =
    let h = holds_step (cleared_change c.args.n c.loop-t.kept) c.loop-t.invariant.holds c.clear_from.ensures in
    (holds_long h, c.requires.0.unit, omega (arith, holds_five h, c.loop-t.invariant.few, c.loop-t.invariant.within, c.loop-t.invariant.most))

pub returns : goal.returns
returns c =
    dealing_end c.args.s.now _ _ _ c.requires.0 c.requires.1 c.loop-t.invariant c.loop-t-test.false c.clear_from.ensures c.clear_from-2.ensures
