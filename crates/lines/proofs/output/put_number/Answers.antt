-- `output::put_number` meets its contract.
use Prim.Native.Nat.{◌+◌, ◌/◌, ◌%◌}
use native.Mathlib.Omega.{arith}
use lib.ListN.{length-set}
use borrow.Author.Tests.{lt-ltb, le-ltb}
use Rattle.buffer.specs.Choice.{pick}
use Rattle.lines.specs.Output.{decimal, number_line}
use Rattle.lines.proofs.Writing.{put_none, put_byte}
use Rattle.lines.proofs.output.put_number.Goals as goal

pub bounds-out-1 : goal.bounds-out-1
bounds-out-1 c =
    simp length-set (omega arith)

pub returns-then-n-lt10 : goal.returns-then-n-lt10
unfolding number_line decimal pick
returns-then-n-lt10 c =
    let n = c.args.n in
    rw (lt-ltb n 10 c.if-n-lt10.true)
    (put_byte 10 (put_byte (48 + n) (put_none c.args.out.now) (omega arith)) (simp length-set (omega arith)))

pub bounds-out-1-2 : goal.bounds-out-1-2
bounds-out-1-2 c =
    simp length-set (omega arith)

pub returns : goal.returns
unfolding number_line decimal pick
returns c =
    let n = c.args.n in
    rw (le-ltb n 10 c.if-n-lt10.false)
    (put_byte 10 (put_byte (48 + n % 10) (put_byte (48 + n / 10) (put_none c.args.out.now) (omega arith)) (simp length-set (omega arith)))
    (simp length-set (omega arith)))
