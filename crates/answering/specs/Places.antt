-- The places of the records in a list, by their keys alone: a list goes by unit and then rank, so that a record has the rank behind that of the
-- record before it where they share the unit, else rank 1.
use Rattle.std.specs.Prelude.{ℕ, zero, suc, ◌*◌, ◌≤◌, ◌<◌, List, eqb, length, Option, Some, None}
use Rattle.buffer.specs.Choice.{pick}
use Rattle.buffer.specs.Bytes.{be32, part}
use Rattle.group.specs.Widths.{slot_bytes}
use Rattle.model.specs.Units.{unit_of}
use Rattle.lines.specs.Output.{record_line}
use Rattle.answering.specs.declared.records.Place.{Place}

-- the unit of record i, of a list in a store of m units
unfoldable pub unit_at : ℕ → List ℕ → ℕ → ℕ
unit_at m list i = unit_of m (be32 list (slot_bytes * i))

-- the rank behind rank r of unit v, for a record of unit u
unfoldable pub rank_behind : ℕ → ℕ → ℕ → ℕ
rank_behind v r u = pick (eqb u v) (suc r) 1

-- before the first record there is none: no data unit has the number 16
abbrev pub no_unit : ℕ
no_unit = 16

-- unit and rank of the record before a record, if there is one
abbrev pub unit_in : Option Place → ℕ
unit_in None = no_unit
unit_in (Some place) = place.unit

abbrev pub rank_in : Option Place → ℕ
rank_in None = 0
rank_in (Some place) = place.rank

-- unit and rank of the record before record i, of records whose units are given
unfoldable pub unit_before : (ℕ → ℕ) → ℕ → ℕ
unit_before unit zero = no_unit
unit_before unit (suc i) = unit i

unfoldable pub rank_before : (ℕ → ℕ) → ℕ → ℕ
rank_before unit zero = 0
rank_before unit (suc i) = rank_behind (unit_before unit i) (rank_before unit i) (unit i)

-- the line of record i
unfoldable pub listed_line : ℕ → List ℕ → ℕ → List ℕ
listed_line m list i = record_line (unit_at m list i) (rank_before (unit_at m list) (suc i)) (part (slot_bytes * i) slot_bytes list)

-- n records stand in a list, in a store of m units, and their ranks are numbers of a byte
pub record Records (m : ℕ) (list : List ℕ) (n : ℕ) : Type 0 where
  pub units : 1 ≤ m
  pub long : slot_bytes * n ≤ length list
  pub ranks : (i : ℕ) → i < n → rank_before (unit_at m list) i < 255
