-- `coder::sums::Weighted::add_four` meets its contract.
use mathlib.Core.Path.{◌≡◌, sym, ap, ◌∙◌}
use mathlib.Core.Bool.{not}
use Prim.Native.Nat.{ℕ}
use native.Mathlib.Omega.{arith}
use lib.Dec.{eqb}
use borrow.Author.Tests.{eq-eqb, ne_eqb}
use borrow.Author.Rules.{rules}
use Rattle.buffer.specs.Bytes.{byte}
use Rattle.buffer.specs.Choice.{pick}
use Rattle.buffer.specs.ChoiceLaws.{pick_true, pick-false}
use Rattle.buffer.specs.LoopWrites.{filling_start, filling_turn, filling_read, filling_end}
use Rattle.field256.specs.Gf256.{product}
use Rattle.coder.proofs.sums.Weighted.add_four.Goals as goal
use Rattle.coder.proofs.sums.Weighted.add_four.Goals.{then-this-ne0, else-this-ne0}

pub loop-j-init : goal.loop-j-init
loop-j-init g c =
    filling_start

pub loop-j-preserved : goal.loop-j-preserved
loop-j-preserved g c =
    let inv = c.loop-j.invariant in
    let old : ℕ = byte c.args.acc.now c.loop-j.j in
    let first : c.if-this-ne0.x ≡ pick (not (eqb g.row.DOUBLED 0)) (product 2 old) old =
    elim c.if-this-ne0.branch [
      | then-this-ne0 w ↦ w.x-is ∙ w.twice-x.ensures ∙ ap (product 2) (filling_read inv)
          ∙ sym (pick_true (ap not (ne_eqb g.row.DOUBLED 0 w.if-this-ne0.true)) (product 2 old) old)
      | else-this-ne0 w ↦ w.x-is ∙ filling_read inv ∙ sym (pick-false (ap not (eq-eqb g.row.DOUBLED 0 w.if-this-ne0.false)) (product 2 old) old)
    ] in
    filling_turn _ inv (search rules) (rw first)

pub returns : goal.returns
returns g c =
    filling_end c.loop-j.invariant (omega arith)
