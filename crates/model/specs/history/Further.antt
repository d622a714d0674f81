-- Calls that may stand in a history beside the base calls. Of each: the base call that it counts as where it is granted, its rows of the table of
-- numbers, and its answer, by the bytes of a store and by a ledger. Nothing else of a history depends on which of them there are.
use Rattle.std.specs.Prelude.{ℕ, List, [], ◌∷◌, ◌++◌, Bool, not, eqb, ltb, length, take}
use Rattle.std.proofs.Math.Option.{Option, none, some}
use Rattle.buffer.specs.Choice.{pick}
use Rattle.moves.specs.declared.Move.{Move}
use Rattle.moves.specs.Moves.{same_moves}
use Rattle.model.specs.Layout.{Store, view}
use Rattle.model.specs.Sound.{sound}
use Rattle.model.specs.Numbers.{Call, grow, first_of, refusals_in}
use Rattle.model.specs.Perform.{Answer, plain, planned, output}
use Rattle.model.specs.history.Ledger.{Ledger}
use Rattle.model.specs.history.Table.{refusals}
use Rattle.model.specs.history.Plan.{plan_in, plan_of}

-- the calls, each with its arguments: lists as they are lent, numbers
pub data Further : Type 0 where
  plan : List Move → Further  -- ask for a plan; the list to fill
  commit : List Move → ℕ → Further  -- grow by a plan; the list and the count

-- what a granted one counts as in every history: a commit as a grow, asking as nothing
unfoldable pub counts_as : Further → Option Call
counts_as (plan lent) = none
counts_as (commit lent n) = some grow

-- ---- numbers

-- rows behind those of a grow, where the plan is ms. Asking: 7 for a short list. A commit: 11 when the count exceeds the list, or its first entries, as
-- many as counted, aren't the plan of the store as it is now.
unfoldable pub plan_rows : List Move → List Move → List (Bool × ℕ)
plan_rows lent ms = (ltb (length lent) (length ms), 7) ∷ []

unfoldable pub commit_rows : List Move → ℕ → List Move → List (Bool × ℕ)
commit_rows lent n ms = (ltb (length lent) n, 11) ∷ (not (same_moves (take n lent) ms), 11) ∷ []

-- both refuse as grow does, then by these
unfoldable pub further_refusals_in : Bool → Store → Further → List (Bool × ℕ)
further_refusals_in ok v (plan lent) = refusals_in ok v grow ++ plan_rows lent (plan_in v)
further_refusals_in ok v (commit lent n) = refusals_in ok v grow ++ commit_rows lent n (plan_in v)

unfoldable pub further_number_in : List ℕ → Further → ℕ
further_number_in s a = first_of (further_refusals_in (sound s) (view s) a)

unfoldable pub further_refusals : Ledger → Further → List (Bool × ℕ)
further_refusals l (plan lent) = refusals l grow ++ plan_rows lent (plan_of l)
further_refusals l (commit lent n) = refusals l grow ++ commit_rows lent n (plan_of l)

unfoldable pub further_number : Ledger → Further → ℕ
further_number l a = first_of (further_refusals l a)

-- ---- answers

-- asking with the number n, where the plan is ms: granted, its count and its entries, and the list's old rest; refused, 0 and the list as it was
unfoldable pub plan_reply : List Move → ℕ → List Move → Answer
plan_reply lent n ms = planned n (pick (eqb n 0) (length ms) 0) (output n ms lent)

unfoldable pub further_answer_in : List ℕ → Further → Answer
further_answer_in s (plan lent) = plan_reply lent (further_number_in s (plan lent)) (plan_in (view s))
further_answer_in s (commit lent n) = plain (further_number_in s (commit lent n))

unfoldable pub further_answer : Ledger → Further → Answer
further_answer l (plan lent) = plan_reply lent (further_number l (plan lent)) (plan_of l)
further_answer l (commit lent n) = plain (further_number l (commit lent n))

-- the answer of a call that is refused with the number n: nothing is handed back, and a lent list is as it was
unfoldable pub further_refusal : Further → ℕ → Answer
further_refusal (plan lent) n = planned n 0 lent
further_refusal (commit lent c) n = plain n
