-- The steps of a repair of group g: the store after each. The states in the store at the start of a step say which units are out.
use Rattle.std.specs.Prelude.{ℕ, ◌/◌, ◌&&◌, eqb}
use Rattle.buffer.specs.Choice.{pick}
use Rattle.model.specs.Layout.{Store, changed}
use Rattle.model.specs.Parts.{with_slots}
use Rattle.model.specs.Reads.{whole_slot}

-- ---- first the data units that are out are rebuilt: one unit, and those of the group
unfoldable pub unit_rebuilt : Store → ℕ → Store
unit_rebuilt v u = with_slots v (λ w r. pick (eqb w u) (whole_slot v u r) (v.slot w r))

unfoldable pub units_rebuilt : Store → ℕ → Store
units_rebuilt v g = with_slots v (λ u r. pick (eqb (u / 4) g) (whole_slot v u r) (v.slot u r))

-- ---- then the check units that are out are made from the data (`made_in` of `encoding`), and then all that are out are put in service
-- the state of a unit then
unfoldable pub in_service : ℕ → ℕ
in_service state = pick (eqb state 2) 1 state

unfoldable pub units_serving : Store → ℕ → Store
units_serving v g =
    changed v v.front
    (λ u. pick (eqb (u / 4) g && eqb (v.dstate u) 2) 1 (v.dstate u))
    (λ c. pick (eqb (c / 3) g && eqb (v.cstate c) 2) 1 (v.cstate c))
    v.slot
    v.check
