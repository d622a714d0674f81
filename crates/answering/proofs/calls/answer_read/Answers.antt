-- `calls::answer_read` meets its contract.
use Prim.Native.Nat.{ℕ}
use mathlib.Core.Path.{◌≡◌, refl, sym, ap, ◌∙◌}
use mathlib.Core.List.{List, []}
use borrow.Author.Tests.{eq-eqb, eqb-false, ne_eqb}
use Rattle.refusal.specs.NumberLaws.{refused}
use Rattle.buffer.specs.ChoiceLaws.{pick_true, pick-false}
use Rattle.buffer.specs.Bytes.{zeros}
use Rattle.model.specs.Numbers.{Call}
use Rattle.model.specs.Perform.{copied, Outcome, outcome, perform}
use Rattle.lines.specs.Output.{number_line, field_line}
use Rattle.answering.specs.Said.{printed}
use Rattle.answering.proofs.calls.answer_read.Goals as goal

-- what is printed of a call that copies a field
module _ {s y : List ℕ} {n : ℕ} (c : Call) (e : outcome (copied n y) s ≡ perform s c) where
  field_printed : n ≡ 0 → field_line y ≡ printed (perform s c).answer []
  unfolding printed
  field_printed z = sym (pick_true (eq-eqb n 0 z) _ _) ∙ ap (λ (o : Outcome). printed o.answer []) e

  refusal_printed : (n ≡ 0 → ⊥) → number_line n ≡ printed (perform s c).answer []
  unfolding printed
  refusal_printed z = sym (pick-false (ne_eqb n 0 z) _ _) ∙ ap (λ (o : Outcome). printed o.answer []) e

pub returns-in-Ok : goal.returns-in-Ok
unfolding zeros
returns-in-Ok c =
    rw (← field_printed _ c.in-Ok.ensures refl) c.put_field.ensures

pub returns-in-Err : goal.returns-in-Err
unfolding zeros
returns-in-Err c =
    rw (← refusal_printed _ c.in-Err.ensures (eqb-false _ 0 (refused c.in-Err.refusal))) (rw c.from.ensures at c.put_number.ensures)
