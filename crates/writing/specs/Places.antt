-- Where the units of a store stand, data and check units in one row.
use Rattle.std.specs.Prelude.{ℕ, ◌-◌, ltb}
use Rattle.buffer.specs.Choice.{pick}
use Rattle.model.specs.Layout.{slot_at, check_at}

-- the first byte of unit w, with b ranks to a unit: 0 to 15 data, 16 + 3g + j check
unfoldable pub unit_at : ℕ → ℕ → ℕ
unit_at b w = pick (ltb w 16) (slot_at b w 0) (check_at b (w - 16) 0)
