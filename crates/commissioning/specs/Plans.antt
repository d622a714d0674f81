-- A history with plans, by the ledger (document 02, ask 6).
use Rattle.std.specs.Prelude.{ℕ, ◌≡◌, refl, List, [], ◌∷◌}
use Rattle.buffer.specs.Choice.{pick}
use Rattle.buffer.specs.Range.{all, first, count, sum}
use Rattle.buffer.specs.Loops.{entries}
use Rattle.buffer.specs.Bytes.{zeros}
use Rattle.buffer.specs.Table.{upd}
use Rattle.group.specs.Widths.{field_bytes}
use Rattle.moves.specs.declared.Move.{Move}
use Rattle.moves.specs.Moves.{move, no_move, same_move, same_moves}
use Rattle.model.specs.Units.{power_below, split_pointer, address, digit_sum, unit_of}
use Rattle.model.specs.Numbers.{teach, unit_out, repair, grow, first_of}
use Rattle.model.specs.Perform.{plain, planned, output, reply}
use Rattle.model.specs.Changes.{filter_by}
use Rattle.model.specs.history.Ledger.{empty, opened, home, record_at, rank_of, placed, is_out, outs_of, state, with_records, group_of, grown_ledger, granted}
use Rattle.model.specs.history.Ledger.{missing_of, checks_serving_of, rebuildable_of, keys_lost_of, beyond_of}
use Rattle.model.specs.history.Table.{refusals, number}
use Rattle.model.specs.history.Answers.{given, answer, after}
use Rattle.model.specs.history.Plan.{move_of, plan_of}
use Rattle.model.specs.history.Further.{plan, commit, counts_as, plan_rows, commit_rows, plan_reply, further_refusals, further_number, further_answer}
use Rattle.model.specs.history.Steps.{Step, call, further, counted, ledger_left, step_answer, after_step, step_answers}

abbrev taught : ℕ → Step
taught k = call (teach k (zeros field_bytes))

-- an entry that nobody wrote
abbrev other : Move
other = move 9 9 9 9

-- Keys 2, 3 and 5 stand in unit 0. The plan of a second unit: 2 stays, 3 and 5 go to unit 1.
unfoldable pub three : List Move
three = move 0 1 0 1 ∷ move 0 2 1 1 ∷ move 0 3 1 2 ∷ []

-- Asked for with a list too short it is 7, and with a longer one it leaves the rest. Counts other than the plan's, a count above the list and other
-- entries are 11; what stands behind the count is not looked at. After the commit the same list is not the plan any more: the next one splits unit 0 again,
-- where 2 alone is left, and moves it to unit 2. With a unit out it is 4; with none the plan of the third stroke, of unit 1, has two entries.
pub example : step_answers (opened 4) (
    taught 2 ∷ taught 3 ∷ taught 5
    ∷ further (plan (other ∷ other ∷ [])) ∷ further (plan (other ∷ other ∷ other ∷ other ∷ []))
    ∷ further (commit three 2) ∷ further (commit three 4) ∷ further (commit (move 0 1 0 1 ∷ move 0 2 1 2 ∷ move 0 3 1 1 ∷ []) 3)
    ∷ further (commit (move 0 1 0 1 ∷ move 0 2 1 1 ∷ move 0 3 1 2 ∷ other ∷ []) 3) ∷ further (commit three 3)
    ∷ further (plan (other ∷ [])) ∷ call (unit_out 16) ∷ further (plan (other ∷ [])) ∷ further (commit [] 0) ∷ call (repair 0)
    ∷ further (commit (move 0 1 2 1 ∷ []) 1) ∷ further (plan (other ∷ other ∷ [])) ∷ call grow ∷ [])
    ≡ plain 0 ∷ plain 0 ∷ plain 0
    ∷ planned 7 0 (other ∷ other ∷ []) ∷ planned 0 3 (move 0 1 0 1 ∷ move 0 2 1 1 ∷ move 0 3 1 2 ∷ other ∷ [])
    ∷ plain 11 ∷ plain 11 ∷ plain 11
    ∷ plain 0 ∷ plain 11
    ∷ planned 0 1 (move 0 1 2 1 ∷ []) ∷ plain 0 ∷ planned 4 0 (other ∷ []) ∷ plain 4 ∷ plain 0
    ∷ plain 0 ∷ planned 0 2 (move 1 1 3 1 ∷ move 1 2 1 1 ∷ []) ∷ plain 0 ∷ []
unfolding three step_answers step_answer after_step counted ledger_left counts_as further_answer further_number further_refusals plan_rows commit_rows plan_reply plan_of
    move_of same_moves same_move no_move answer reply output after given granted number refusals first_of group_of beyond_of keys_lost_of rebuildable_of checks_serving_of
    missing_of outs_of is_out placed state record_at rank_of home with_records grown_ledger opened empty zeros unit_of address digit_sum power_below split_pointer
    filter_by entries upd all first count sum pick
example = refl
