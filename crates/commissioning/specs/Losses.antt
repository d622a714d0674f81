-- Commissioning value 10, worked anew for losses judged rank by rank (document 02, ask 5): the numbers that the ledger gives to some lists of calls,
-- with two ranks to a unit. With two data units keys 1 and 3 lie in unit 1, keys 2 and 4 in unit 0.
use Rattle.std.specs.Prelude.{ℕ, ◌≡◌, refl, List, [], ◌∷◌}
use Rattle.std.proofs.Common.{◌∙◌, arith}
use Rattle.algebra.specs.Polynomial.{All}
use Rattle.buffer.specs.Choice.{pick}
use Rattle.buffer.specs.Range.{all, first, count, sum}
use Rattle.buffer.specs.Bytes.{zeros}
use Rattle.buffer.specs.ByteLaws.{byte_zeros}
use Rattle.buffer.specs.Table.{upd}
use Rattle.group.specs.Widths.{field_bytes}
use Rattle.model.specs.Units.{power_below, split_pointer, address, digit_sum, unit_of}
use Rattle.model.specs.Numbers.{Call, teach, read, list, unit_out, repair, grow, raise, first_of}
use Rattle.model.specs.Perform.{plain, reply, lay_out_number, lay_out}
use Rattle.model.specs.Changes.{filter_by}
use Rattle.model.specs.history.Ledger.{Ledger, empty, opened, home, rank_of, placed, is_out, state, outs_of, units_out, total, with_records, group_of}
use Rattle.model.specs.history.Ledger.{missing_of, checks_serving_of, rebuildable_of, keys_lost_of, key_beyond_of, beyond_of, lost, grown_ledger, granted}
use Rattle.model.specs.history.Table.{refusals, number}
use Rattle.model.specs.history.Answers.{given, answer, after}
use Rattle.model.specs.history.Steps.{Step, call, counted, ledger_left, step_answers_in, step_answer, after_step, step_answers}
use Rattle.model.proofs.history.claims.Demand3.{outlives}

unfoldable pub numbers : Ledger → List Call → List ℕ
numbers l [] = []
numbers l (c ∷ cs) = number l c ∷ numbers (after l c) cs

-- any field will do, and a buffer for four records
abbrev pub taught : ℕ → Call
taught k = teach k (zeros field_bytes)

abbrev read_into : ℕ → Call
read_into k = read k (zeros field_bytes)

abbrev list_into : Call
list_into = list (zeros 96)

-- the calls, and their numbers
unfoldable pub runs : List (List Call × List ℕ)
runs =
    -- "Level 1: one unit out repairs": a data unit, and the check unit
    (grow ∷ taught 1 ∷ unit_out 1 ∷ read_into 1 ∷ list_into ∷ repair 0 ∷ unit_out 16 ∷ repair 0 ∷ [], 0 ∷ 0 ∷ 0 ∷ 0 ∷ 0 ∷ 0 ∷ 0 ∷ 0 ∷ [])
    -- "two of a group give 8 where one is the check unit", also with nothing taught
    ∷ (taught 5 ∷ unit_out 0 ∷ unit_out 16 ∷ read_into 5 ∷ list_into ∷ repair 0 ∷ [], 0 ∷ 0 ∷ 0 ∷ 8 ∷ 8 ∷ 8 ∷ [])
    ∷ (unit_out 0 ∷ unit_out 16 ∷ read_into 5 ∷ list_into ∷ repair 0 ∷ [], 0 ∷ 0 ∷ 8 ∷ 8 ∷ 8 ∷ [])
    -- "or both hold a record at one rank"; a key at the next rank, where one does, reads, and one that was not taught is 6
    ∷ (
      grow ∷ taught 1 ∷ taught 2 ∷ taught 3 ∷ unit_out 0 ∷ unit_out 1 ∷ read_into 1 ∷ read_into 3 ∷ read_into 4 ∷ list_into ∷ repair 0 ∷ [],
      0 ∷ 0 ∷ 0 ∷ 0 ∷ 0 ∷ 0 ∷ 8 ∷ 0 ∷ 6 ∷ 8 ∷ 8 ∷ [],
    )
    -- "else they repair"
    ∷ (grow ∷ taught 1 ∷ unit_out 0 ∷ unit_out 1 ∷ read_into 1 ∷ read_into 2 ∷ list_into ∷ repair 0 ∷ read_into 1 ∷ [], 0 ∷ 0 ∷ 0 ∷ 0 ∷ 0 ∷ 6 ∷ 0 ∷ 0 ∷ 0 ∷ [])
    -- at level 3 all three check units out and no data unit
    ∷ (raise ∷ raise ∷ taught 5 ∷ unit_out 16 ∷ unit_out 17 ∷ unit_out 18 ∷ read_into 5 ∷ list_into ∷ repair 0 ∷ [], 0 ∷ 0 ∷ 0 ∷ 0 ∷ 0 ∷ 0 ∷ 0 ∷ 0 ∷ 0 ∷ [])
    ∷ []

pub value_10 : All (λ run. numbers (opened 2) run.0 ≡ run.1) runs
unfolding runs numbers after number refusals first_of granted grown_ledger group_of with_records opened empty filter_by lost beyond_of key_beyond_of keys_lost_of
    rebuildable_of checks_serving_of missing_of total units_out outs_of state is_out placed rank_of home unit_of address digit_sum power_below split_pointer zeros upd
    all first count sum pick
value_10 = (refl, (refl, (refl, (refl, (refl, (refl, tt))))))

-- The same of bytes. Level 1, two data units, key 1 taught: with units 0 and 1 out the repair of their group is granted, in every slice in which the store is
-- laid out. Two units are out, and one check unit is in service.
abbrev both_out : List Step
both_out = call grow ∷ call (taught 1) ∷ call (unit_out 0) ∷ call (unit_out 1) ∷ call (repair 0) ∷ []

by_ledger : step_answers (opened 2) both_out ≡ plain 0 ∷ plain 0 ∷ plain 0 ∷ plain 0 ∷ plain 0 ∷ []
unfolding step_answers step_answer after_step counted ledger_left answer reply given after number refusals first_of granted grown_ledger group_of with_records opened
    empty filter_by beyond_of keys_lost_of rebuildable_of checks_serving_of missing_of outs_of state is_out placed rank_of home unit_of address digit_sum power_below
    split_pointer zeros upd all first count sum pick
by_ledger = refl

pub both_out_lem : (s : List ℕ) → lay_out_number s 2 ≡ 0
    → step_answers_in (lay_out s 2).store (call grow ∷ call (taught 1) ∷ call (unit_out 0) ∷ call (unit_out 1) ∷ call (repair 0) ∷ [])
    ≡ plain 0 ∷ plain 0 ∷ plain 0 ∷ plain 0 ∷ plain 0 ∷ []
both_out_lem s zero =
    (outlives s 2 zero both_out (tt, ((omega arith, λ i. omega (arith, byte_zeros field_bytes i)), (tt, (tt, (tt, tt)))))).histories.answered ∙ by_ledger
