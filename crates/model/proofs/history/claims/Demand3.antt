-- Demand 3: a taught position outlives its unit. Answers and picture come by the steps; what is kept is what the base calls that they count as keep.
use Prim.Native.Nat.{ℕ}
use mathlib.Core.Path.{◌≡◌, sym, ap, ◌∙◌}
use mathlib.Core.List.{List}
use lib.ListN.{drop}
use Rattle.model.specs.Layout.{store_bytes}
use Rattle.model.specs.Perform.{lay_out_number, lay_out}
use Rattle.model.specs.history.Ledger.{opened}
use Rattle.model.specs.history.Answers.{final}
use Rattle.model.specs.history.Runs.{final_in}
use Rattle.model.specs.history.Typed.{AllTyped}
use Rattle.model.specs.history.Steps.{Step, step_answers_in, steps_leave_in, calls_in, steps_leave, StepsTyped}
use Rattle.model.specs.history.Claims.{Histories, Outlives}
use Rattle.model.proofs.history.steps.Taken.{calls_typed, leave_as_calls, Taken, taken}
use Rattle.model.proofs.history.claims.KeepsTaught.{start, opened_is, keeps_taught}

module _ (s : List ℕ) (b : ℕ) (zero : lay_out_number s b ≡ 0) (xs : List Step) (typed : StepsTyped xs) where
  steps : Taken (opened b) (drop (store_bytes b) s) xs
  steps = taken xs (opened b) (drop (store_bytes b) s) (opened_is s b zero) typed

  histories : Histories s b xs
  histories = record {
    answered = ap (λ (x : List ℕ). step_answers_in x xs) (start s b zero) ∙ steps.answered;
    pictured = ap (λ (x : List ℕ). steps_leave_in x xs) (start s b zero) ∙ steps.left;
  }

  -- the base calls that the steps count as
  pub typed_calls : AllTyped (calls_in (lay_out s b).store xs)
  typed_calls = calls_typed xs (lay_out s b).store typed

  -- they leave the same store and the same ledger
  pub same_store : steps_leave_in (lay_out s b).store xs ≡ final_in (lay_out s b).store (calls_in (lay_out s b).store xs)
  same_store = leave_as_calls xs (lay_out s b).store

  pub same_ledger : steps_leave (opened b) xs ≡ final (opened b) (calls_in (lay_out s b).store xs)
  same_ledger = steps.recorded ∙ ap (λ (x : List ℕ). final (opened b) (calls_in x xs)) (sym (start s b zero))

-- DEMAND 3
pub outlives : (s : List ℕ) (b : ℕ) → lay_out_number s b ≡ 0 → (xs : List Step) → StepsTyped xs → Outlives s b xs
outlives s b zero xs typed = record {
  histories = histories s b zero xs typed;
  keeps_taught = rw (same_store s b zero xs typed, same_ledger s b zero xs typed)
      (keeps_taught s b zero (calls_in (lay_out s b).store xs) (typed_calls s b zero xs typed));
}
