-- `coder::sums::Weighted::add_digit` meets its contract.
use Prim.Native.Nat.{◌≤◌, ◌+◌}
use native.Mathlib.Omega.{arith}
use Rattle.buffer.specs.Choice.{pick}
use Rattle.coder.proofs.Adding.{adding_turn, adding_end}
use Rattle.coder.proofs.sums.Weighted.add_digit.Goals as goal

pub loop-r-preserved : goal.loop-r-preserved
unfolding pick
loop-r-preserved c =
    adding_turn _ _ _ _ _ _ _ _ c.loop-r.invariant c.loop-r-test.true c.add_four-in-loop-r.ensures

pub returns : goal.returns
unfolding pick
returns c =
    adding_end _ _ _ _ _ _ _ _ _ c.pick_digit-k.ensures c.args.self.now.blank c.args.acc.now _ _ _ c.requires.1
    c.add_four.ensures c.loop-r.invariant c.loop-r-test.false

pub returns-2 : goal.returns-2
unfolding pick
returns-2 c =
    let all : c.pick_digit-k.result ≤ c.loop-r.r + 4 = omega arith in
    adding_end _ _ _ _ _ _ _ _ _ c.pick_digit-k.ensures c.args.self.now.blank c.args.acc.now _ _ _ c.requires.1
    c.add_four.ensures (adding_turn _ _ _ _ _ _ _ _ c.loop-r.invariant c.loop-r-test.true c.add_four-in-loop-r.ensures) all
