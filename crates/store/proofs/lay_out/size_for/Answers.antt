-- `lay_out::size_for` meets its contract.
use borrow.Author.Tests.{lt-ltb, le-ltb}
use Rattle.buffer.specs.Choice.{pick}
use Rattle.model.specs.Numbers.{first_of}
use Rattle.model.specs.Perform.{lay_out_number}
use Rattle.store.proofs.lay_out.size_for.Goals as goal

pub returns-then-b-lt1-clause-verdict : goal.returns-then-b-lt1-clause-verdict
unfolding lay_out_number first_of pick
returns-then-b-lt1-clause-verdict c =
    simp (lt-ltb _ 1 c.if-b-lt1.true)

pub returns-then-b-gt64-clause-verdict : goal.returns-then-b-gt64-clause-verdict
unfolding lay_out_number first_of pick
returns-then-b-gt64-clause-verdict c =
    simp (le-ltb _ 1 c.if-b-lt1.false, lt-ltb 64 _ c.if-b-gt64.true)

pub returns-then-s-size-clause-verdict : goal.returns-then-s-size-clause-verdict
unfolding lay_out_number first_of pick
returns-then-s-size-clause-verdict c =
    simp (le-ltb _ 1 c.if-b-lt1.false, le-ltb 64 _ c.if-b-gt64.false, lt-ltb _ _ c.if-s-size.true)

pub returns-clause-verdict : goal.returns-clause-verdict
unfolding lay_out_number first_of pick
returns-clause-verdict c =
    simp (le-ltb _ 1 c.if-b-lt1.false, le-ltb 64 _ c.if-b-gt64.false, le-ltb _ _ c.if-s-size.false)
