-- Document 02, ask 6: growing in two strokes, on any bytes.
use Rattle.std.specs.Prelude.{ℕ, suc, ◌≤◌, ◌<◌, ◌≡◌, ◌≢◌, ◌⊎◌, List, length, take, get_or}
use Rattle.buffer.specs.Exactly.{Exactly}
use Rattle.moves.specs.declared.Move.{Move}
use Rattle.moves.specs.Moves.{no_move}
use Rattle.model.specs.Units.{split_pointer}
use Rattle.model.specs.Layout.{view, units_in}
use Rattle.model.specs.Reads.{fill_in}
use Rattle.model.specs.Numbers.{grow, number_in}
use Rattle.model.specs.Perform.{planned, perform}
use Rattle.model.specs.MadeAnew.{left_by}
use Rattle.model.specs.history.Plan.{plan_in}
use Rattle.model.specs.history.Further.{plan, commit, further_number_in}
use Rattle.model.specs.history.Steps.{further, perform_step}

-- the unit that is split next
abbrev pub split_unit : List ℕ → ℕ
split_unit s = split_pointer (units_in (view s))

-- what entry r of the plan says of the record at rank r of the split unit, ranks counted from 0 in a store and from 1 in a move: its old unit and rank; its
-- new unit, the old one or the one that is added, and its new rank; and where a grow is granted, the record stands there afterwards
pub record TellsOf (s : List ℕ) (r : ℕ) (a : Move) : Type 0 where
  pub old_unit : a.old_unit ≡ split_unit s
  pub old_rank : a.old_rank ≡ suc r
  pub new_unit : (a.new_unit ≡ split_unit s) ⊎ (a.new_unit ≡ units_in (view s))
  pub rank : ℕ
  pub new_rank : a.new_rank ≡ suc rank
  pub stands : number_in s grow ≡ 0 → (left_by s grow).slot a.new_unit rank ≡ (view s).slot (split_unit s) r

pub record TwoStrokes (s : List ℕ) : Type 0 where
  -- asking changes nothing in the store
  pub asked : (lent : List Move) → (perform_step s (further (plan lent))).store ≡ s
  -- one entry a record of the split unit, in old rank order
  pub entries : length (plan_in (view s)) ≡ fill_in (view s) (split_unit s)
  pub tells : (r : ℕ) → r < fill_in (view s) (split_unit s) → TellsOf s r (get_or (plan_in (view s)) r no_move)
  -- where a grow is refused, both are, with its number
  pub as_grow : number_in s grow ≢ 0 → (lent : List Move) (n : ℕ)
      → (further_number_in s (plan lent) ≡ number_in s grow) × (further_number_in s (commit lent n) ≡ number_in s grow)
  -- asking is refused with 7 exactly where a grow is granted and the list is shorter than the plan; where it is not shorter, asking is granted
  pub short : (lent : List Move) → Exactly (further_number_in s (plan lent) ≡ 7) ((number_in s grow ≡ 0) × (length lent < length (plan_in (view s))))
  pub long_enough : (lent : List Move) → number_in s grow ≡ 0 → length (plan_in (view s)) ≤ length lent → further_number_in s (plan lent) ≡ 0
  -- a granted commit: a grow would have been granted, the list is the plan, and the store is left as a grow leaves it
  pub granted : (lent : List Move) (n : ℕ) → further_number_in s (commit lent n) ≡ 0
      → (number_in s grow ≡ 0) × (n ≤ length lent) × (take n lent ≡ plan_in (view s)) × ((perform_step s (further (commit lent n))).store ≡ (perform s grow).store)
  -- where a grow is granted, a list that is the plan is granted, whoever wrote it and whatever stands behind it, and any other refused with 11
  pub the_plan : number_in s grow ≡ 0 → (lent : List Move) (n : ℕ) → n ≤ length lent → take n lent ≡ plan_in (view s) → further_number_in s (commit lent n) ≡ 0
  pub not_the_plan : number_in s grow ≡ 0 → (lent : List Move) (n : ℕ) → (n ≤ length lent → take n lent ≡ plan_in (view s) → ⊥)
      → further_number_in s (commit lent n) ≡ 11
  -- so also the list as a granted asking left it, with its count
  pub as_asked : (lent ms : List Move) (n : ℕ) → (perform_step s (further (plan lent))).answer ≡ planned 0 n ms → further_number_in s (commit ms n) ≡ 0
