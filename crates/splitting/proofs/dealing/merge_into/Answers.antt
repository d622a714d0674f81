-- `splitting::dealing::merge_into` meets its contract.
use Prim.Native.Nat.{◌+◌}
use native.Mathlib.Omega.{arith}
use Rattle.encoding.specs.Holding.{holds_step, holds_long}
use Rattle.splitting.proofs.StepLaws.{cleared_change}
use Rattle.splitting.proofs.MergeLoop.{merging_start, merging_turn, merging_end}
use Rattle.splitting.proofs.dealing.merge_into.Goals as goal

pub loop-t-init : goal.loop-t-init
loop-t-init c =
    merging_start c.args.s.now _ _ _ _ c.requires.split c.requires.count c.requires.more c.requires.room

pub loop-t-preserved : goal.loop-t-preserved
loop-t-preserved c =
    merging_turn c.args.s.now _ _ _ _ c.requires.split c.requires.count c.requires.more c.requires.room c.loop-t.invariant c.loop-t-test.true c.move_record.ensures

pub clear_from-requires-2 : goal.clear_from-requires-2
clear_from-requires-2 c =
    let h = holds_step (cleared_change c.args.merge.into (c.args.merge.count + c.args.merge.more)) c.loop-t.invariant.holds c.clear_from.ensures in
    (holds_long h, c.requires.split.unit, omega arith)

pub returns : goal.returns
returns c =
    merging_end c.args.s.now _ _ _ _ c.requires.split c.requires.count c.requires.more c.requires.room c.loop-t.invariant
    c.loop-t-test.false c.clear_from.ensures c.clear_from-2.ensures
