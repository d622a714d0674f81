-- Where the keys of a unit are listed: every step bytes from a place on. A data unit's keys stand in its slots; a unit that is out has its keys
-- listed by a check unit.
use Rattle.std.specs.Prelude.{ℕ, ◌+◌, ◌*◌, ◌/◌, ◌%◌, ◌<◌, ◌≡◌, false, List, eqb}
use Rattle.buffer.specs.Choice.{pick}
use Rattle.buffer.specs.Bytes.{byte, part}
use Rattle.buffer.specs.Strided.{Within}
use Rattle.group.specs.Widths.{key_bytes, slot_bytes, check_bytes}
use Rattle.model.specs.Layout.{view, slot_at, check_at}
use Rattle.model.specs.Reads.{first_check, listed_key, keys_lost_in}
use Rattle.lookup.specs.Sized.{Sized}

-- where the keys of unit u stand while it is out: in the first check unit in service of its group, the others a check record apart behind the first
abbrev pub keys_at : List ℕ → ℕ → ℕ
keys_at s u = check_at (byte s 5) (first_check (view s) (u / 4)) 0 + 4 * (u % 4)

-- ---- the keys of a unit, wherever they are listed: where the first stands, and how far each is from the one before
unfoldable pub keys_from : List ℕ → ℕ → ℕ
keys_from s u = pick (eqb (byte s (8 + u)) 2) (keys_at s u) (slot_at (byte s 5) u 0)

unfoldable pub keys_step : List ℕ → ℕ → ℕ
keys_step s u = pick (eqb (byte s (8 + u)) 2) check_bytes slot_bytes

-- they can be read: they are not lost
pub record Known (s : List ℕ) (u : ℕ) : Type 0 where
  pub sized : Sized s
  pub unit : u < 16
  pub kept : keys_lost_in (view s) u ≡ false

-- the list at base, a key every step bytes, is that of unit u
pub record Lists (s : List ℕ) (u base step : ℕ) : Type 0 where
  pub bytes : (r : ℕ) → part (base + step * r) key_bytes s ≡ listed_key (view s) u r
  pub within : Within s base step (byte s 5)
