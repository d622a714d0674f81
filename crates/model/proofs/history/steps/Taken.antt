-- Every list of steps: on a picture it answers as the ledger does and leaves the ledger's picture; and the store and the ledger that it leaves are those
-- of the base calls that it counts as. Nothing here knows which further calls there are.
use Prim.Native.Nat.{ℕ}
use mathlib.Core.Path.{◌≡◌, refl, ap, ◌∙◌, subst}
use mathlib.Core.List.{List, [], ◌∷◌}
use mathlib.Core.Option.{Option, none, some}
use lib.Dec.{eqb}
use Rattle.buffer.specs.Choice.{pick}
use Rattle.buffer.specs.ChoiceLaws.{by-pick}
use Rattle.model.specs.Numbers.{Call}
use Rattle.model.specs.Perform.{perform}
use Rattle.model.specs.history.Ledger.{Ledger}
use Rattle.model.specs.history.Picture.{picture}
use Rattle.model.specs.history.Answers.{final}
use Rattle.model.specs.history.Runs.{final_in}
use Rattle.model.specs.history.Typed.{AllTyped}
use Rattle.model.specs.history.Further.{counts_as, further_number_in}
use Rattle.model.specs.history.Steps.{Step, call, further, counted_in, store_left, step_answer_in, perform_step, step_answers_in, steps_leave_in, also, calls_in}
use Rattle.model.specs.history.Steps.{counted, ledger_left, step_answer, after_step, step_answers, steps_leave, CountTyped, StepTyped, StepsTyped}
use Rattle.model.proofs.history.ledger.Valid.{Valid}
use Rattle.model.proofs.history.calls.Simulation.{answer_agrees, after_agrees, after_valid}
use Rattle.model.proofs.history.claims.History.{simulated}
use Rattle.model.proofs.history.steps.Agreed.{agrees}

-- ---- on any store: the base calls that count

-- a base call counts as itself
pub base_step : (s : List ℕ) (c : Call) → perform_step s (call c) ≡ perform s c
unfolding perform_step step_answer_in counted_in store_left
base_step s c = refl

-- what the types give of them
pub counted_typed_in : (s : List ℕ) (x : Step) → StepTyped x → CountTyped (counted_in s x)
unfolding counted_in
counted_typed_in s (call c) t = t
counted_typed_in s (further a) t = by-pick CountTyped (eqb (further_number_in s a) 0) (counts_as a) none (λ e. t) (λ e. tt)

also_typed : (o : Option Call) (cs : List Call) → CountTyped o → AllTyped cs → AllTyped (also o cs)
unfolding also
also_typed none cs t u = u
also_typed (some c) cs t u = (t, u)

pub calls_typed : (xs : List Step) (s : List ℕ) → StepsTyped xs → AllTyped (calls_in s xs)
unfolding calls_in
calls_typed [] s t = tt
calls_typed (x ∷ xs) s t = also_typed (counted_in s x) _ (counted_typed_in s x t.0) (calls_typed xs (perform_step s x).store t.1)

-- they leave what the steps leave
also_leaves : (o : Option Call) (cs : List Call) (s : List ℕ) → final_in (store_left s o) cs ≡ final_in s (also o cs)
unfolding final_in store_left also
also_leaves none cs s = refl
also_leaves (some c) cs s = refl

pub leave_as_calls : (xs : List Step) (s : List ℕ) → steps_leave_in s xs ≡ final_in s (calls_in s xs)
unfolding steps_leave_in calls_in final_in perform_step
leave_as_calls [] s = refl
leave_as_calls (x ∷ xs) s = leave_as_calls xs (store_left s (counted_in s x)) ∙ also_leaves (counted_in s x) _ s

also_leaves_by : (o : Option Call) (cs : List Call) (l : Ledger) → final (ledger_left l o) cs ≡ final l (also o cs)
unfolding final ledger_left also
also_leaves_by none cs l = refl
also_leaves_by (some c) cs l = refl

-- ---- one step on a picture

module _ (l : Ledger) (rest : List ℕ) (h : Valid l) where
  counted_agrees : (x : Step) → StepTyped x → counted_in (picture l rest) x ≡ counted l x
  unfolding counted_in counted
  counted_agrees (call c) t = refl
  counted_agrees (further a) t = ap (λ (n : ℕ). pick (eqb n 0) (counts_as a) none) (agrees l rest h a t).number

  left_agrees : (o : Option Call) → CountTyped o → store_left (picture l rest) o ≡ picture (ledger_left l o) rest
  unfolding store_left ledger_left
  left_agrees none t = refl
  left_agrees (some c) t = after_agrees l rest c (simulated l rest h c t)

  left_valid : (o : Option Call) → CountTyped o → Valid (ledger_left l o)
  unfolding ledger_left
  left_valid none t = h
  left_valid (some c) t = after_valid l rest c (simulated l rest h c t) h

  counted_typed : (x : Step) → StepTyped x → CountTyped (counted l x)
  counted_typed x t = subst CountTyped (counted_agrees x t) (counted_typed_in (picture l rest) x t)

  step_answers_lem : (x : Step) → StepTyped x → (perform_step (picture l rest) x).answer ≡ step_answer l x
  unfolding perform_step step_answer_in step_answer
  step_answers_lem (call c) t = answer_agrees l rest c (simulated l rest h c t)
  step_answers_lem (further a) t = (agrees l rest h a t).answer

  step_leaves : (x : Step) → StepTyped x → (perform_step (picture l rest) x).store ≡ picture (after_step l x) rest
  unfolding perform_step after_step
  step_leaves x t = ap (store_left (picture l rest)) (counted_agrees x t) ∙ left_agrees (counted l x) (counted_typed x t)

  step_valid : (x : Step) → StepTyped x → Valid (after_step l x)
  unfolding after_step
  step_valid x t = left_valid (counted l x) (counted_typed x t)

-- ---- a list of steps on a picture

pub record Taken (l : Ledger) (rest : List ℕ) (xs : List Step) : Type 0 where
  pub answered : step_answers_in (picture l rest) xs ≡ step_answers l xs
  pub left : steps_leave_in (picture l rest) xs ≡ picture (steps_leave l xs) rest
  pub recorded : steps_leave l xs ≡ final l (calls_in (picture l rest) xs)

-- WHATEVER THE STEPS
pub taken : (xs : List Step) (l : Ledger) (rest : List ℕ) → Valid l → StepsTyped xs → Taken l rest xs
unfolding step_answers_in step_answers steps_leave_in steps_leave calls_in final
taken [] l rest h t = record { answered = refl; left = refl; recorded = refl }
taken (x ∷ xs) l rest h t =
    let a = step_leaves l rest h x t.0 in
    let r : Taken (after_step l x) rest xs = taken xs (after_step l x) rest (step_valid l rest h x t.0) t.1 in
    record {
      answered = rw (step_answers_lem l rest h x t.0, a, r.answered);
      left = rw a r.left;
      recorded = rw (a, counted_agrees l rest h x t.0) (r.recorded ∙ (unfold after_step in also_leaves_by (counted l x) _ l));
    }
