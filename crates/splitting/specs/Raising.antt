-- The steps of a raise on the parts of a store: the check units that are added.
use Rattle.std.specs.Prelude.{ℕ, ◌*◌, ◌/◌, ◌%◌, Bool, ◌&&◌, eqb, ltb}
use Rattle.buffer.specs.Choice.{pick}
use Rattle.model.specs.Layout.{Store}
use Rattle.model.specs.Parts.{with_cstates}
use Rattle.encoding.specs.Made.{made}

-- the check units that a test picks are made from the data and in service
unfoldable pub with_units : (ℕ → Bool) → Store → Store
with_units p v = with_cstates (made p v) (λ c. pick (p c) 1 (v.cstate c))

-- check unit k, counted from 0, of the first g groups; and of the groups that are in place in a store of m units
abbrev pub of_first_groups : ℕ → ℕ → ℕ → Bool
of_first_groups g k c = ltb (c / 3) g && eqb (c % 3) k

abbrev pub of_groups : ℕ → ℕ → ℕ → Bool
of_groups m k c = ltb (4 * (c / 3)) m && eqb (c % 3) k
