-- Asking for a plan, and a commit, on a picture: number and answer are the ledger's.
use Prim.Native.Nat.{ℕ}
use mathlib.Core.Path.{◌≡◌, sym, ap, ap₂, ◌∙◌, subst}
use mathlib.Core.List.{List, ◌++◌}
use mathlib.Core.Bool.{Bool, false}
use native.Mathlib.Omega.{arith}
use lib.Dec.{eqb}
use lib.ListN.{length}
use borrow.Author.Tests.{eqb-true, eqb-false, leb-false}
use Rattle.buffer.specs.ChoiceLaws.{by-test, pick-false}
use Rattle.moves.specs.declared.Move.{Move}
use Rattle.model.specs.Layout.{view}
use Rattle.model.specs.Sound.{sound}
use Rattle.model.specs.Numbers.{grow, first_of, refusals_in}
use Rattle.model.specs.RowLaws.{Agree, Free, agree_same, agree_first, agree_append, front_granted}
use Rattle.model.specs.Perform.{plain, planned}
use Rattle.model.specs.history.Ledger.{Ledger}
use Rattle.model.specs.history.Picture.{picture}
use Rattle.model.specs.history.Table.{refusals}
use Rattle.model.specs.history.Plan.{plan_in, plan_of}
use Rattle.model.specs.history.Further.{plan, commit, plan_rows, commit_rows, plan_reply}
use Rattle.model.specs.history.Further.{further_refusals_in, further_number_in, further_answer_in, further_refusals, further_number, further_answer}
use Rattle.model.proofs.Refusals.{refused_output}
use Rattle.model.proofs.history.ledger.Valid.{Valid}
use Rattle.model.proofs.history.ledger.Granted.{numbered}
use Rattle.model.proofs.history.calls.Grow.{grow_simulated}
use Rattle.model.proofs.history.steps.Agrees.{Agrees}
use Rattle.model.proofs.history.steps.Plan.{plan_seen}

-- a refused asking tells nothing of the plan
pub refused_plan : (lent : List Move) (n : ℕ) (ms : List Move) → eqb n 0 ≡ false → plan_reply lent n ms ≡ planned n 0 lent
unfolding plan_reply
refused_plan lent n ms e = ap₂ (planned n) (pick-false e (length ms) 0) (refused_output n ms lent (eqb-false n 0 e))

module _ (l : Ledger) (rest : List ℕ) (h : Valid l) where
  -- where a grow is granted the plan is the ledger's
  plan_is : Free (refusals l grow) → plan_in (view (picture l rest)) ≡ plan_of l
  unfolding refusals
  plan_is f = plan_seen l rest h (omega (arith, leb-false 16 l.units f.1.0)) f.1.1.1.0

  -- rows of the plan behind those of a grow
  as_grow : (more : List Move → List (Bool × ℕ))
      → first_of (refusals_in (sound (picture l rest)) (view (picture l rest)) grow ++ more (plan_in (view (picture l rest))))
      ≡ first_of (refusals l grow ++ more (plan_of l))
  as_grow more =
      let rows : List (Bool × ℕ) = refusals_in (sound (picture l rest)) (view (picture l rest)) grow in
      agree_first (rows ++ more (plan_in (view (picture l rest)))) (refusals l grow ++ more (plan_of l))
      (agree_append rows (refusals l grow) _ _ (grow_simulated l rest h).tests
      (λ f. subst (λ ms. Agree (more ms) (more (plan_of l))) (sym (plan_is f)) (agree_same (more (plan_of l)))))

  -- asking
  plan_number : (lent : List Move) → further_number_in (picture l rest) (plan lent) ≡ further_number l (plan lent)
  unfolding further_number_in further_number further_refusals_in further_refusals
  plan_number lent = as_grow (plan_rows lent)

  plan_free : (lent : List Move) → further_number l (plan lent) ≡ 0 → Free (refusals l grow)
  unfolding further_number further_refusals
  plan_free lent = front_granted (refusals l grow) (plan_rows lent (plan_of l)) (numbered l grow)

  pub plan_agrees : (lent : List Move) → Agrees l rest (plan lent)
  unfolding further_answer_in further_answer
  plan_agrees lent =
      let n : ℕ = further_number l (plan lent) in
      record {
        number = plan_number lent;
        answer = rw (plan_number lent) (by-test (λ (t : Bool). plan_reply lent n (plan_in (view (picture l rest))) ≡ plan_reply lent n (plan_of l)) (eqb n 0)
            (λ e. ap (plan_reply lent n) (plan_is (plan_free lent (eqb-true n 0 e))))
            (λ e. refused_plan lent n _ e ∙ sym (refused_plan lent n _ e)));
      }

  -- a commit
  pub commit_agrees : (lent : List Move) (n : ℕ) → Agrees l rest (commit lent n)
  unfolding further_number_in further_number further_refusals_in further_refusals further_answer_in further_answer
  commit_agrees lent n =
      let same : further_number_in (picture l rest) (commit lent n) ≡ further_number l (commit lent n) = as_grow (commit_rows lent n) in
      record { number = same; answer = ap plain same }
