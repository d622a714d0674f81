-- `digits::put_bytes` meets its contract.
use Prim.Native.Nat.{ℕ, ◌+◌, ◌*◌}
use mathlib.Core.Path.{◌≡◌, sym, ap, ◌∙◌}
use mathlib.Core.List.{append-nil}
use native.Mathlib.Omega.{arith}
use lib.ListN.{length, drop_of_length-le}
use Rattle.buffer.specs.Bytes.{byte, splice}
use Rattle.buffer.specs.SpliceLaws.{put_lent}
use Rattle.buffer.specs.LoopWrites.{appending_start, appending_turn, appending_end}
use Rattle.buffer.specs.Table.{tab}
use Rattle.lines.specs.Digits.{hex_bytes}
use Rattle.lines.specs.DigitLaws.{length_hex, length_hex_bytes}
use Rattle.lines.proofs.digits.put_bytes.Invariants.{pairs}
use Rattle.lines.proofs.digits.put_bytes.Goals as goal

pub loop-i-init : goal.loop-i-init
loop-i-init c =
    appending_start

pub loop-i-preserved : goal.loop-i-preserved
loop-i-preserved c =
    let p = c.loop-i in
    let s = c.args.from.now in
    let next : 2 * p.i + 2 ≡ 2 * (p.i + 1) = omega arith in
    rw (← next) (appending_turn 2 p.invariant c.loop-i-test.true (sym (length_hex 2 (byte s p.i))) (omega arith)
    (put_lent p.into _ (2 * p.i) 2 ∙ ap (λ x. splice (2 * p.i) 2 x p.into) c.put_byte.ensures))

pub returns : goal.returns
unfolding hex_bytes
returns c =
    let a = c.args in
    let s = a.from.now in
    let n : ℕ = length s in
    appending_end c.loop-i.invariant c.loop-i-test.false
    ∙ rw (drop_of_length-le a.into.now {i = length (tab n (pairs s))} (omega (arith, length_hex_bytes n s)))
    (append-nil (hex_bytes n s))
