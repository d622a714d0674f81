-- Histories of base calls and further calls. A step counts as a base call or as nothing, and that alone says what becomes of the store and of the ledger;
-- its answer is its own.
use Rattle.std.specs.Prelude.{ℕ, List, [], ◌∷◌, eqb}
use Rattle.std.proofs.Math.Option.{Option, none, some}
use Rattle.buffer.specs.Choice.{pick}
use Rattle.model.specs.Numbers.{Call}
use Rattle.model.specs.Perform.{Answer, Outcome, outcome, perform}
use Rattle.model.specs.history.Ledger.{Ledger}
use Rattle.model.specs.history.Answers.{answer, after}
use Rattle.model.specs.history.Typed.{Typed}
use Rattle.model.specs.history.Further.{Further, counts_as, further_number_in, further_number, further_answer_in, further_answer}

pub data Step : Type 0 where
  call : Call → Step  -- a base call
  further : Further → Step

-- ---- on the bytes of a store

-- what a step counts as: a base call as itself; a further call, where it is granted, as its base call, and refused as nothing
unfoldable pub counted_in : List ℕ → Step → Option Call
counted_in s (call c) = some c
counted_in s (further a) = pick (eqb (further_number_in s a) 0) (counts_as a) none

-- the store that this leaves
unfoldable pub store_left : List ℕ → Option Call → List ℕ
store_left s none = s
store_left s (some c) = (perform s c).store

unfoldable pub step_answer_in : List ℕ → Step → Answer
step_answer_in s (call c) = (perform s c).answer
step_answer_in s (further a) = further_answer_in s a

unfoldable pub perform_step : List ℕ → Step → Outcome
perform_step s x = outcome (step_answer_in s x) (store_left s (counted_in s x))

-- a list of steps, each getting the store as the one before left it: the answers, and the bytes at its end
unfoldable pub step_answers_in : List ℕ → List Step → List Answer
step_answers_in s [] = []
step_answers_in s (x ∷ xs) = (perform_step s x).answer ∷ step_answers_in (perform_step s x).store xs

unfoldable pub steps_leave_in : List ℕ → List Step → List ℕ
steps_leave_in s [] = s
steps_leave_in s (x ∷ xs) = steps_leave_in (perform_step s x).store xs

-- the base calls that it counts as, in order
unfoldable pub also : Option Call → List Call → List Call
also none cs = cs
also (some c) cs = c ∷ cs

unfoldable pub calls_in : List ℕ → List Step → List Call
calls_in s [] = []
calls_in s (x ∷ xs) = also (counted_in s x) (calls_in (perform_step s x).store xs)

-- ---- on a ledger

unfoldable pub counted : Ledger → Step → Option Call
counted l (call c) = some c
counted l (further a) = pick (eqb (further_number l a) 0) (counts_as a) none

unfoldable pub ledger_left : Ledger → Option Call → Ledger
ledger_left l none = l
ledger_left l (some c) = after l c

unfoldable pub step_answer : Ledger → Step → Answer
step_answer l (call c) = answer l c
step_answer l (further a) = further_answer l a

unfoldable pub after_step : Ledger → Step → Ledger
after_step l x = ledger_left l (counted l x)

unfoldable pub step_answers : Ledger → List Step → List Answer
step_answers l [] = []
step_answers l (x ∷ xs) = step_answer l x ∷ step_answers (after_step l x) xs

unfoldable pub steps_leave : Ledger → List Step → Ledger
steps_leave l [] = l
steps_leave l (x ∷ xs) = steps_leave (after_step l x) xs

-- ---- what the types give: of a further call, what they give of the base call that it counts as

abbrev pub CountTyped : Option Call → Type 0
CountTyped none = Unit {0}
CountTyped (some c) = Typed c

abbrev pub StepTyped : Step → Type 0
StepTyped (call c) = Typed c
StepTyped (further a) = CountTyped (counts_as a)

abbrev pub StepsTyped : List Step → Type 0
StepsTyped [] = Unit {0}
StepsTyped (x ∷ xs) = StepTyped x × StepsTyped xs
