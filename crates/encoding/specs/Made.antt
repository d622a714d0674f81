-- Check records made anew from the data.
use Rattle.std.specs.Prelude.{ℕ, ◌+◌, ◌*◌, ◌/◌, ◌%◌, List, Bool, ◌&&◌, eqb}
use Rattle.buffer.specs.Choice.{pick}
use Rattle.group.specs.CheckRecord.{check_record}
use Rattle.model.specs.Layout.{Store}
use Rattle.model.specs.Parts.{with_checks}

-- the check record of check unit c at rank r, made from the data
unfoldable pub made_record : Store → ℕ → ℕ → List ℕ
made_record v c r = check_record (c % 3) (λ p. v.slot (4 * (c / 3) + p) r)

-- the check records for which a test of unit and rank holds are made from the data
unfoldable pub made_at : (ℕ → ℕ → Bool) → Store → Store
made_at p v = with_checks v (λ c r. pick (p c r) (made_record v c r) (v.check c r))

-- ---- tests: check unit c alone; the check units of a group; of some, those in this state; of some, rank r
abbrev pub is_unit : ℕ → ℕ → Bool
is_unit c d = eqb d c

abbrev pub in_group : ℕ → ℕ → Bool
in_group g c = eqb (c / 3) g

abbrev pub in_state : ℕ → Store → (ℕ → Bool) → ℕ → Bool
in_state k v p c = p c && eqb (v.cstate c) k

abbrev pub at_rank : ℕ → (ℕ → Bool) → ℕ → ℕ → Bool
at_rank r p c q = eqb q r && p c

-- ---- whole check units: those for which a test holds, and of these those in this state, in service (1) or out (2)
abbrev pub made : (ℕ → Bool) → Store → Store
made p v = made_at (λ c r. p c) v

abbrev pub made_in : ℕ → (ℕ → Bool) → Store → Store
made_in k p v = made (in_state k v p) v
