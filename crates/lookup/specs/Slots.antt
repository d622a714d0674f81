-- Where the members of a group hold fields and parity.
use Rattle.std.specs.Prelude.{ℕ, ◌+◌, ◌*◌, ◌-◌, ltb}
use Rattle.buffer.specs.Choice.{pick}
use Rattle.group.specs.Widths.{key_bytes, keys_bytes}
use Rattle.model.specs.Layout.{slot_at, check_at}

-- where a member of group g holds the field or the parity of rank r
unfoldable pub held_at : ℕ → ℕ → ℕ → ℕ → ℕ
held_at b g r m = pick (ltb m 4) (slot_at b (4 * g + m) r + key_bytes) (check_at b (3 * g + (m - 4)) r + keys_bytes)
