-- `soundness::states::out_from` meets its contract.
use mathlib.Core.Path.{refl, ap}
use Prim.Native.Nat.{◌+◌}
use borrow.Author.Rules.{rules}
use Rattle.buffer.specs.Bytes.{byte}
use Rattle.buffer.specs.TestLaws.{is_eq, is_ne}
use Rattle.buffer.specs.LoopTests.{counting_start, counting_more, counting_same, counting_end}
use Rattle.soundness.proofs.states.out_from.Goals as goal
use Rattle.soundness.proofs.states.out_from.Goals.{then-s-at-eq-OUT, else-s-at-eq-OUT}

pub loop-i-init : goal.loop-i-init
loop-i-init c =
    counting_start

pub loop-i-preserved : goal.loop-i-preserved
loop-i-preserved c =
    let state = ap (λ k. byte c.args.s.now (c.args.at + k)) c.from.ensures in
    elim c.if-s-at-eq-OUT.branch [
      | then-s-at-eq-OUT w ↦ rw w.out-is (counting_more c.loop-i.invariant (search rules) (is_eq state refl w.if-s-at-eq-OUT.true))
      | else-s-at-eq-OUT w ↦ rw w.out-is (counting_same c.loop-i.invariant (search rules) (is_ne state refl w.if-s-at-eq-OUT.false))
    ]

pub returns : goal.returns
returns c =
    (counting_end c.loop-i.invariant (search rules), search rules)
