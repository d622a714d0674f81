-- `lookup::held_at` meets its contract.
use native.Mathlib.Omega.{arith}
use borrow.Author.Tests.{lt-ltb, le-ltb}
use Rattle.buffer.specs.ChoiceLaws.{pick_true, pick-false}
use Rattle.lookup.specs.Slots.{held_at}
use Rattle.lookup.proofs.held_at.Goals as goal

pub returns-then-m-lt4 : goal.returns-then-m-lt4
unfolding held_at
returns-then-m-lt4 c =
    (rw (pick_true (lt-ltb _ _ c.if-m-lt4.true)) (omega arith), omega arith)

pub returns : goal.returns
unfolding held_at
returns c =
    (rw (pick-false (le-ltb _ _ c.if-m-lt4.false)) (omega arith), omega arith)
