-- Document 01, "Numbers returned": the calls of demand 3 and, for each, the rows of the table that concern it, in the order 2, 1, 3, 9, 4, 8,
-- 5, 6, 7. The first condition that holds gives the number; where none holds the call is granted.
use Rattle.std.specs.Prelude.{ℕ, pred, ◌+◌, ◌*◌, ◌/◌, List, [], ◌∷◌, Bool, not, eqb, ltb, leb, length}
use Rattle.buffer.specs.Choice.{pick}
use Rattle.group.specs.Widths.{field_bytes, slot_bytes}
use Rattle.model.specs.Units.{split_pointer}
use Rattle.model.specs.Layout.{Store, view, units_in, level_in}
use Rattle.model.specs.Reads.{home_in, fill_in, rank_in, outs_in, units_out_in, state_in, listed_fill, listed_rank, key_beyond_in, beyond_in, lost_in, total_in}
use Rattle.model.specs.Sound.{sound}

-- the calls, each with its arguments: keys, fields, unit and group numbers, and output buffers as they are lent
pub data Call : Type 0 where
  teach : ℕ → List ℕ → Call
  correct : ℕ → List ℕ → Call
  erase : ℕ → Call
  read : ℕ → List ℕ → Call
  read_in_place : ℕ → Call
  list : List ℕ → Call
  unit_out : ℕ → Call
  repair : ℕ → Call
  grow : Call
  shrink : Call
  raise : Call

-- a choice by the kind of a call: a key's field is written (teach, correct), a key erased, a field copied (read) or lent (read in place), all records
-- listed, units marked (unit out, repair), or none of these (grow, shrink, raise)
abbrev pub by_kind {ℓ} : {A : Type ℓ} → Call → (ℕ → List ℕ → A) → (ℕ → A) → (ℕ → List ℕ → A) → (ℕ → A) → (List ℕ → A) → A → A → A
by_kind (teach k x) written erased copied lent listed marked other = written k x
by_kind (correct k x) written erased copied lent listed marked other = written k x
by_kind (erase k) written erased copied lent listed marked other = erased k
by_kind (read k out) written erased copied lent listed marked other = copied k out
by_kind (read_in_place k) written erased copied lent listed marked other = lent k
by_kind (list out) written erased copied lent listed marked other = listed out
by_kind (unit_out w) written erased copied lent listed marked other = marked
by_kind (repair g) written erased copied lent listed marked other = marked
by_kind grow written erased copied lent listed marked other = other
by_kind shrink written erased copied lent listed marked other = other
by_kind raise written erased copied lent listed marked other = other

-- the number of the first test that holds, and 0 where none does
unfoldable pub first_of : List (Bool × ℕ) → ℕ
first_of [] = 0
first_of (t ∷ ts) = pick t.0 t.1 (first_of ts)

-- The rows of each call, for a store with the parts v, whose bytes are sound or not. Read in place returns no number and has no rows.
unfoldable pub refusals_in : Bool → Store → Call → List (Bool × ℕ)
refusals_in ok v (teach k x) =
    (eqb k 0, 2) ∷ (not (eqb (length x) field_bytes), 2) ∷ (not ok, 1) ∷ (ltb 0 (outs_in v (home_in v k / 4)), 4)
    ∷ (ltb (rank_in v (home_in v k) k) (fill_in v (home_in v k)), 5) ∷ (leb v.size (fill_in v (home_in v k)), 7) ∷ []
refusals_in ok v (correct k x) =
    (eqb k 0, 2) ∷ (not (eqb (length x) field_bytes), 2) ∷ (not ok, 1) ∷ (ltb 0 (outs_in v (home_in v k / 4)), 4)
    ∷ (leb (fill_in v (home_in v k)) (rank_in v (home_in v k) k), 6) ∷ []
refusals_in ok v (erase k) =
    (eqb k 0, 2) ∷ (not ok, 1) ∷ (ltb 0 (outs_in v (home_in v k / 4)), 4) ∷ (leb (fill_in v (home_in v k)) (rank_in v (home_in v k) k), 6) ∷ []
refusals_in ok v (read k x) =
    (eqb k 0, 2) ∷ (not (eqb (length x) field_bytes), 2) ∷ (not ok, 1) ∷ (key_beyond_in v k, 8)
    ∷ (leb (listed_fill v (home_in v k)) (listed_rank v (home_in v k) k), 6) ∷ []
refusals_in ok v (read_in_place k) = []
refusals_in ok v (list x) = (not ok, 1) ∷ (lost_in v, 8) ∷ (ltb (length x) (slot_bytes * total_in v), 7) ∷ []
refusals_in ok v (unit_out w) = (ltb 27 w, 2) ∷ (not ok, 1) ∷ (eqb (state_in v w) 0, 3) ∷ (eqb (state_in v w) 2, 4) ∷ []
refusals_in ok v (repair g) = (ltb 3 g, 2) ∷ (not ok, 1) ∷ (leb (units_in v) (4 * g), 3) ∷ (beyond_in v g, 8) ∷ []
refusals_in ok v grow =
    (not ok, 1) ∷ (leb 16 (units_in v), 9) ∷ (ltb 0 (outs_in v (units_in v / 4)), 4) ∷ (ltb 0 (outs_in v (split_pointer (units_in v) / 4)), 4) ∷ []
refusals_in ok v shrink =
    let m : ℕ = pred (units_in v) in
    (not ok, 1) ∷ (leb (units_in v) 1, 9) ∷ (ltb 0 (outs_in v (m / 4)), 4) ∷ (ltb 0 (outs_in v (split_pointer m / 4)), 4)
    ∷ (ltb v.size (fill_in v (split_pointer m) + fill_in v m), 7) ∷ []
refusals_in ok v raise = (not ok, 1) ∷ (leb 3 (level_in v), 9) ∷ (ltb 0 (units_out_in v), 4) ∷ []

unfoldable pub number_in : List ℕ → Call → ℕ
number_in s c = first_of (refusals_in (sound s) (view s) c)
