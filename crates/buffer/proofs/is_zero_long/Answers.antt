-- `buffer::is_zero_long` meets its contract: two halves, each gathered by itself.
use Prim.Native.Nat.{ℕ, ◌-◌, ◌/◌}
use mathlib.Core.Bool.{◌&&◌}
use mathlib.Core.Path.{refl, ap₂, ◌∙◌}
use native.Mathlib.Omega.{arith}
use lib.Dec.{eqb}
use lib.ListN.{length}
use Rattle.buffer.specs.Bytes.{byte}
use Rattle.buffer.specs.Loops.{all_zero}
use Rattle.buffer.specs.TestLaws.{or_zero}
use Rattle.buffer.specs.RangeLaws.{all_halves}
use Rattle.buffer.specs.LoopTests.{gathering_start, gathering_turn, gathering_end}
use Rattle.buffer.proofs.is_zero_long.Goals as goal

pub loop-i-init : goal.loop-i-init
loop-i-init c =
    (gathering_start, gathering_start)

pub loop-i-preserved : goal.loop-i-preserved
loop-i-preserved c =
    (gathering_turn _ c.loop-i.invariant.0 c.loop-i-test.true refl, gathering_turn _ c.loop-i.invariant.1 c.loop-i-test.true refl)

pub returns : goal.returns
unfolding all_zero
returns c =
    let s = c.args.s.now in
    let n : ℕ = length s in
    or_zero c.loop-i.first c.loop-i.second
    ∙ ap₂ (λ a b. a && b) (gathering_end c.loop-i.invariant.0 c.loop-i-test.false) (gathering_end c.loop-i.invariant.1 c.loop-i-test.false)
    ∙ all_halves (n / 2) (n - n / 2) n (λ k. eqb (byte s k) 0) (omega arith) (omega arith)
