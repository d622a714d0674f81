-- Calls before any layout: a buffer of zeros is no sound store, and every call on it is refused.
use Prim.Native.Nat.{ℕ}
use native.Mathlib.Omega.{arith}
use mathlib.Core.Path.{◌≡◌, refl, sym, ap, ◌∙◌}
use mathlib.Core.List.{List, []}
use mathlib.Core.Bool.{false}
use lib.Dec.{eqb}
use borrow.Author.Tests.{eqb-true, eqb-false}
use Rattle.buffer.specs.Choice.{pick}
use Rattle.buffer.specs.ChoiceLaws.{by-test, pick_true, pick-false}
use Rattle.buffer.specs.Range.{first}
use Rattle.buffer.specs.ByteLaws.{byte_zeros}
use Rattle.buffer.specs.Table.{tab}
use Rattle.model.specs.Layout.{view}
use Rattle.model.specs.Reads.{listed_fill}
use Rattle.model.specs.Sound.{ranges, sound}
use Rattle.model.specs.Numbers.{Call, teach, correct, erase, read, read_in_place, list, unit_out, repair, grow, shrink, raise, first_of, refusals_in, number_in}
use Rattle.model.specs.Perform.{refusal, outcome, perform}
use Rattle.model.specs.Demand1.{Refuses}
use Rattle.model.proofs.Demand1.{demand_1}
use Rattle.answering.specs.Said.{record_lines, buffer_bytes, blank}
use Rattle.answering.specs.ByLedger.{unlaid_number}

pub unsound : sound blank ≡ false
unfolding sound ranges blank
unsound = rw (byte_zeros buffer_bytes 0)

pub no_records : record_lines (view blank) ≡ []
unfolding record_lines listed_fill view blank tab first
no_records = rw (byte_zeros buffer_bytes 5)

-- a call on a store that is not sound
module _ (s : List ℕ) (e : sound s ≡ false) where
  number_unlaid : (c : Call) → number_in s c ≡ first_of (refusals_in false (view []) c)
  unfolding number_in refusals_in first_of pick
  number_unlaid (teach k x) = rw e
  number_unlaid (correct k x) = rw e
  number_unlaid (erase k) = rw e
  number_unlaid (read k out) = rw e
  number_unlaid (read_in_place k) = refl
  number_unlaid (list out) = rw e
  number_unlaid (unit_out w) = rw e
  number_unlaid (repair g) = rw e
  number_unlaid grow = rw e
  number_unlaid shrink = rw e
  number_unlaid raise = rw e

  pub refused_unlaid : (c : Call) → perform s c ≡ outcome (refusal c (unlaid_number c)) s
  unfolding unlaid_number
  refused_unlaid c =
      let says : Refuses s c = demand_1.calls s c in
      rw (← number_unlaid c)
      (by-test (λ t. eqb (number_in s c) 2 ≡ t → perform s c ≡ outcome (refusal c (pick t 2 1)) s) (eqb (number_in s c) 2)
      (λ _ q.
      let two : number_in s c ≡ 2 = eqb-true (number_in s c) 2 q in
      says.refused (λ z. omega arith) ∙ ap (λ n. outcome (refusal c n) s) (two ∙ sym (pick_true refl 2 1)))
      (λ _ q. says.damaged e (eqb-false (number_in s c) 2 q) ∙ ap (λ n. outcome (refusal c n) s) (sym (pick-false refl 2 1)))
      refl)
