-- `soundness::keys::same_lists` meets its contract.
use Prim.Native.Nat.{ℕ, ◌<◌}
use mathlib.Core.Bool.{◌&&◌}
use mathlib.Core.Path.{sym, ap₂, ◌∙◌}
use native.Mathlib.Omega.{arith}
use lib.Bits.{bit_xor}
use Rattle.buffer.specs.Bytes.{byte}
use Rattle.buffer.specs.TestLaws.{or_zero}
use Rattle.buffer.specs.RangeLaws.{all_both}
use Rattle.buffer.specs.LoopTests.{gathering_start, gathering_turn, gathering_end}
use Rattle.soundness.specs.Keys.{same_lists}
use Rattle.soundness.proofs.Words.{same_words}
use Rattle.soundness.proofs.keys.same_lists.Goals as goal

pub loop-r-init : goal.loop-r-init
loop-r-init c =
    record { one = gathering_start; two = gathering_start }

pub loop-r-preserved : goal.loop-r-preserved
loop-r-preserved c =
    let inv = c.loop-r.invariant in
    let s = c.args.s.now in
    let bound : (i : ℕ) → byte s i < 256 = λ i. omega (arith, c.shared_slice_known-1.given i) in
    record {
      one =
          gathering_turn (bit_xor c.pair.result c.pair-in-loop-r.result) inv.one c.loop-r-test.true
          (same_words s bound _ _ c.pair.ensures c.pair-in-loop-r.ensures);
      two =
          gathering_turn (bit_xor c.pair-in-loop-r-2.result c.pair-in-loop-r-3.result) inv.two c.loop-r-test.true
          (same_words s bound _ _ c.pair-in-loop-r-2.ensures c.pair-in-loop-r-3.ensures);
    }

pub returns : goal.returns
unfolding same_lists
returns c =
    let inv = c.loop-r.invariant in
    let end = c.loop-r-test.false in
    or_zero c.loop-r.first c.loop-r.second
    ∙ ap₂ (λ a b. a && b) (gathering_end inv.one end) (gathering_end inv.two end)
    ∙ sym (all_both _ _ _)
