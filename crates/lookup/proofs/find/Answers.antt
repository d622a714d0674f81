-- `lookup::find` meets its contract.
use mathlib.Core.Path.{refl, ap, ◌∙◌}
use Prim.Native.Nat.{ℕ, ◌+◌, ◌*◌}
use native.Mathlib.Omega.{arith}
use Rattle.buffer.specs.Bytes.{be32}
use Rattle.buffer.specs.LoopTests.{seeking_hit, seeking_miss, seeking_end}
use Rattle.buffer.specs.TestLaws.{is_eq, is_ne}
use Rattle.buffer.specs.Strided.{strided32}
use Rattle.lookup.proofs.find.Goals as goal

pub loop-i-preserved-then-load32-key : goal.loop-i-preserved-then-load32-key
unfolding strided32
loop-i-preserved-then-load32-key c =
    let a = c.args in
    let key = c.load32.ensures ∙ ap (λ (i : ℕ). be32 a.s.now (a.keys.base + a.keys.step * i)) c.from.ensures in
    seeking_hit c.loop-i.invariant (omega (arith, c.loop-i-test.true)) (is_eq key refl c.if-load32-key.true)

pub loop-i-preserved : goal.loop-i-preserved
unfolding strided32
loop-i-preserved c =
    let a = c.args in
    let key = c.load32.ensures ∙ ap (λ (i : ℕ). be32 a.s.now (a.keys.base + a.keys.step * i)) c.from.ensures in
    seeking_miss c.loop-i.invariant (omega (arith, c.loop-i-test.true)) (is_ne key refl c.if-load32-key.false)

pub returns : goal.returns
returns c =
    let l = c.loop-i in
    (seeking_end l.invariant c.loop-i-test.false, l.invariant.most)
