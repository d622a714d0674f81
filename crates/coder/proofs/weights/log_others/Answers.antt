-- `coder::weights::log_others` meets its contract.
use mathlib.Core.Path.{◌≡◌, sym, ap, ◌∙◌}
use mathlib.Core.List.{List}
use Prim.Native.Nat.{ℕ, ◌≤◌, ◌<◌}
use native.Mathlib.Omega.{arith}
use lib.Bits.{bit_xor}
use lib.ListN.{length, get_or, take}
use lib.Seq.{length-take-le, get_or-take}
use Rattle.std.proofs.lemmas.List.{length-take}
use Rattle.buffer.specs.LoopTests.{summing_start, summing_end}
use Rattle.field256.specs.Powers.{logarithm}
use Rattle.coder.specs.Segment.{largest_group}
use Rattle.coder.specs.Weights.{log_others}
use Rattle.coder.proofs.Logs.{log_sum_le, log_sum_self, log_sum_other}
use Rattle.coder.proofs.weights.log_others.Goals as goal
use Rattle.coder.proofs.weights.log_others.Goals.{then-p-c, else-p-c}

pub loop-p-init : goal.loop-p-init
loop-p-init c =
    summing_start

pub overflow_add-s : goal.overflow_add-s
overflow_add-s c =
    let few : c.args.points.now.m ≤ largest_group = c.args.points.now.group in
    omega (arith, log_sum_le c.args.c c.args.points.now.list c.loop-p.invariant)

pub loop-p-preserved : goal.loop-p-preserved
loop-p-preserved c =
    let ps : List ℕ = c.args.points.now.list in
    let m : ℕ = c.args.points.now.m in
    let i : ℕ = c.loop-p.p-index in
    let inv = c.loop-p.invariant in
    let under : i < m = omega (arith, length-take m ps) in
    let read : get_or (take m ps) i 0 ≡ get_or ps i 0 = get_or-take m ps i 0 under in
    elim c.if-p-c.branch [
      | then-p-c w ↦ rw w.s-is
          (log_sum_other c.args.c ps inv _ under (λ e. w.if-p-c.true (read ∙ e)) (w.log-s.ensures.0 ∙ ap (λ (p : ℕ). logarithm (bit_xor c.args.c p)) read))
      | else-p-c w ↦ rw w.s-is (log_sum_self c.args.c ps inv under (sym read ∙ w.if-p-c.false))
    ]

pub returns : goal.returns
unfolding log_others
returns c =
    let ps : List ℕ = c.args.points.now.list in
    let m : ℕ = c.args.points.now.m in
    let wide : length (take m ps) ≡ m = length-take-le m ps c.args.points.now.small.long in
    summing_end c.loop-p.invariant (omega arith)
