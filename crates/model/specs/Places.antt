-- The places of a store's parts in its bytes: the two regions behind the header, data units of slots and check units of check records, where rank
-- r of a unit stands, and that bytes are long enough for it. What slots and check records have in common is said of a region.
use Rattle.std.specs.Prelude.{ℕ, ◌+◌, ◌*◌, ◌≤◌, ◌<◌, List, length}
use Rattle.buffer.specs.Bytes.{byte}
use Rattle.group.specs.Widths.{slot_bytes, check_bytes}
use Rattle.model.specs.Layout.{header_bytes, store_bytes}

pub data Region : Type 0 where
  data_units : Region
  check_units : Region

-- how many units a region has, how many bytes a rank of a unit has, and where the region starts, with b ranks to a unit
abbrev pub units : Region → ℕ
units data_units = 16
units check_units = 12

abbrev pub width : Region → ℕ
width data_units = slot_bytes
width check_units = check_bytes

abbrev pub start : Region → ℕ → ℕ
start data_units b = header_bytes
start check_units b = header_bytes + 16 * slot_bytes * b

-- where rank r of unit u stands: `slot_at` and `check_at` of the layout
abbrev pub chunk_at : Region → ℕ → ℕ → ℕ → ℕ
chunk_at k b u r = start k b + (u * b + r) * width k

-- bytes that are long enough for the header's b
abbrev pub Long : List ℕ → Type 0
Long x = store_bytes (byte x 5) ≤ length x

-- rank r of unit u is one of a store that the bytes are long enough for
pub record PlaceIn (k : Region) (x : List ℕ) (u r : ℕ) : Type 0 where
  pub long : Long x
  pub unit : u < units k
  pub rank : r < byte x 5

-- it is a slot, a check record
abbrev pub SlotIn : List ℕ → ℕ → ℕ → Type 0
SlotIn = PlaceIn data_units

abbrev pub CheckIn : List ℕ → ℕ → ℕ → Type 0
CheckIn = PlaceIn check_units
