-- `lookup::power_below` meets its contract.
use native.Mathlib.Omega.{arith}
use borrow.Author.Tests.{lt-ltb, le-ltb}
use Rattle.buffer.specs.Choice.{pick}
use Rattle.model.specs.Units.{power_below}
use Rattle.lookup.proofs.power_below.Goals as goal

pub returns-in-0-to-1 : goal.returns-in-0-to-1
unfolding power_below pick
returns-in-0-to-1 c =
    let m = c.args.m in (simp (lt-ltb m 2 (omega arith)), omega arith, omega arith)

pub returns-in-2-to-3 : goal.returns-in-2-to-3
unfolding power_below pick
returns-in-2-to-3 c =
    let m = c.args.m in (simp (le-ltb m 2 (omega arith), lt-ltb m 4 (omega arith)), omega arith, omega arith)

pub returns-in-4-to-7 : goal.returns-in-4-to-7
unfolding power_below pick
returns-in-4-to-7 c =
    let m = c.args.m in (simp (le-ltb m 2 (omega arith), le-ltb m 4 (omega arith), lt-ltb m 8 (omega arith)), omega arith, omega arith)

pub returns-in-8-to-15 : goal.returns-in-8-to-15
unfolding power_below pick
returns-in-8-to-15 c =
    let m = c.args.m in
    (simp (le-ltb m 2 (omega arith), le-ltb m 4 (omega arith), le-ltb m 8 (omega arith), lt-ltb m 16 (omega arith)), omega arith, omega arith)

pub returns-in_default : goal.returns-in_default
unfolding power_below pick
returns-in_default c =
    let m = c.args.m in
    (simp (le-ltb m 2 (omega arith), le-ltb m 4 (omega arith), le-ltb m 8 (omega arith), le-ltb m 16 (omega arith)), omega arith, omega arith)
