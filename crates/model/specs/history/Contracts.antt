-- From contracts to demand 3. Each call's contract is one equation, `outcome answer after ≡ perform_step before step`; of a base call it says `perform`,
-- which is the same (`base_step`). A run is a list of steps, each of which meets its contract and gets the store as the one before left it.
use Rattle.std.specs.Prelude.{ℕ, ◌≡◌, List, [], ◌∷◌, drop}
use Rattle.model.specs.Layout.{store_bytes}
use Rattle.model.specs.Perform.{Answer, plain, outcome, lay_out}
use Rattle.model.specs.history.Ledger.{opened}
use Rattle.model.specs.history.Picture.{picture}
use Rattle.model.specs.history.Steps.{Step, perform_step, step_answers_in, step_answers, steps_leave, StepsTyped}
use Rattle.model.specs.history.Claims.{laid, left, Outlives}

-- the store at the start, the steps, their answers, and the store at the end
pub data Run : List ℕ → List Step → List Answer → List ℕ → Type 0 where
  done : {s : List ℕ} → Run s [] [] s
  then : {s t e : List ℕ} {x : Step} {xs : List Step} {a : Answer} {ys : List Answer}
      → outcome a t ≡ perform_step s x → Run t xs ys e → Run s (x ∷ xs) (a ∷ ys) e

-- After a layout that meets its contract and returns 0, demand 3 holds of every run: its answers are the ledger's and it ends in the ledger's
-- picture; and the answers and the end are those of which `Outlives` speaks.
abbrev pub RunsAsLedger : Type 0
RunsAsLedger = (s l e : List ℕ) (b : ℕ) (xs : List Step) (ys : List Answer) → outcome (plain 0) l ≡ lay_out s b → StepsTyped xs → Run l xs ys e
    → (ys ≡ step_answers (opened b) xs) × (e ≡ picture (steps_leave (opened b) xs) (drop (store_bytes b) s))
    × (ys ≡ step_answers_in (laid s b xs) xs) × (e ≡ left s b xs) × Outlives s b xs
