-- The pieces that the soundness test is made of, over the bytes: one test for each unit in place, and some for all that are not. That they say what
-- document 01 asks is the theorem `pieces_sound`.
use Rattle.std.specs.Prelude.{ℕ, ◌+◌, ◌*◌, ◌-◌, ◌/◌, ◌≤◌, ◌<◌, ◌≡◌, List, Bool, Option, ◌&&◌, ◌||◌, eqb, ltb, leb, length, get_or}
use Rattle.std.specs.Bool.{then_some}
use Rattle.buffer.specs.Choice.{pick}
use Rattle.buffer.specs.Range.{all}
use Rattle.buffer.specs.Bytes.{byte, part}
use Rattle.buffer.specs.Loops.{all_zero}
use Rattle.model.specs.Layout.{view, store_bytes, slot_at, check_at}
use Rattle.model.specs.Reads.{first_check}
use Rattle.model.specs.Sound.{ranges, state_fits, check_placed}
use Rattle.buffer.specs.Strided.{strided32}
use Rattle.lookup.specs.Keys.{keys_at}
use Rattle.group.specs.Widths.{slot_bytes, check_bytes}
use Rattle.soundness.specs.Keys.{fill_of, matched, own_keys, no_keys, same_lists}

-- what the later pieces rely on: the store's units lie within the bytes
pub record Ranged (s : List ℕ) : Type 0 where
  pub few : byte s 5 ≤ 64
  pub some : 1 ≤ byte s 6
  pub most : byte s 6 ≤ 16
  pub long : store_bytes (byte s 5) ≤ length s

-- k is the first check unit in service of group g, or 3g + 3
pub record Kept (s : List ℕ) (g k : ℕ) : Type 0 where
  pub found : k ≡ first_check (view s) g
  pub most : k ≤ 3 * g + 3

-- the bytes from a place up to an end are zero
unfoldable pub zero_between : List ℕ → ℕ → ℕ → Bool
zero_between s at end = all_zero (part at (end - at) s)

-- ---- the state of a data unit, and that of a check unit, is one that the header allows
abbrev pub data_fits : List ℕ → ℕ → Bool
data_fits s u = state_fits (ltb u (byte s 6)) (byte s (8 + u))

abbrev pub check_fits : List ℕ → ℕ → Bool
check_fits s c = state_fits (check_placed (byte s 6) (byte s 7) c) (byte s (24 + c))

-- ---- a data unit: its own keys, and those that the first check unit in service of its group lists for it
unfoldable pub data_keys : List ℕ → ℕ → ℕ → ℕ
data_keys s u = strided32 s (slot_at (byte s 5) u 0) slot_bytes

unfoldable pub column_keys : List ℕ → ℕ → ℕ → ℕ
column_keys s u = strided32 s (keys_at s u) check_bytes

-- no check unit of the group is in service
unfoldable pub unkept : List ℕ → ℕ → Bool
unkept s g = eqb (first_check (view s) g) (3 * g + 3)

-- the keys beside those of a unit: the listed ones, or its own where no check unit of its group is in service
unfoldable pub beside_keys : List ℕ → ℕ → ℕ → ℕ
beside_keys s u = pick (unkept s (u / 4)) (data_keys s u) (column_keys s u)

-- how many keys a unit in service has, and how many are listed for one that is out: none where no check unit of its group is in service
unfoldable pub data_fill : List ℕ → ℕ → ℕ
data_fill s u = fill_of (byte s 5) (data_keys s u)

unfoldable pub lost_fill : List ℕ → ℕ → ℕ
lost_fill s u = pick (unkept s (u / 4)) 0 (fill_of (byte s 5) (column_keys s u))

-- its slots are zero: all of them, and those behind its keys
unfoldable pub unit_zero : List ℕ → ℕ → Bool
unit_zero s u = zero_between s (slot_at (byte s 5) u 0) (slot_at (byte s 5) u 0 + slot_bytes * byte s 5)

unfoldable pub rest_zero : List ℕ → ℕ → Bool
rest_zero s u = zero_between s (slot_at (byte s 5) u 0 + slot_bytes * data_fill s u) (slot_at (byte s 5) u 0 + slot_bytes * byte s 5)

-- in service: its keys differ and are those listed for it, and zeros behind them
unfoldable pub served : List ℕ → ℕ → Bool
served s u = leb (matched (byte s 5) (data_keys s u) (beside_keys s u)) 64 && rest_zero s u

-- out: zeros, and the keys listed for it differ
unfoldable pub lost : List ℕ → ℕ → Bool
lost s u = unit_zero s u && (unkept s (u / 4) || leb (matched (byte s 5) (column_keys s u) (column_keys s u)) 64)

-- in place, but for whether the keys are its own
unfoldable pub served_or_lost : List ℕ → ℕ → Bool
served_or_lost s u = pick (eqb (byte s (8 + u)) 1) (served s u) (lost s u)

-- how many keys are listed for a unit
unfoldable pub unit_fill : List ℕ → ℕ → ℕ
unit_fill s u = pick (ltb u (byte s 6)) (pick (eqb (byte s (8 + u)) 1) (data_fill s u) (lost_fill s u)) 0

-- the counts of a unit in service, of one that is out, and of any in place, where the unit passes the test and its keys a further one
abbrev pub served_count : (ℕ → ℕ → ℕ → (ℕ → ℕ) → Bool) → List ℕ → ℕ → Option ℕ
served_count own s u = then_some (served s u && own (byte s 6) u (data_fill s u) (beside_keys s u)) (data_fill s u)

abbrev pub lost_count : (ℕ → ℕ → ℕ → (ℕ → ℕ) → Bool) → List ℕ → ℕ → Option ℕ
lost_count own s u = then_some (lost s u && own (byte s 6) u (lost_fill s u) (beside_keys s u)) (lost_fill s u)

abbrev pub unit_count : (ℕ → ℕ → ℕ → (ℕ → ℕ) → Bool) → List ℕ → ℕ → Option ℕ
unit_count own s u = then_some (served_or_lost s u && own (byte s 6) u (unit_fill s u) (beside_keys s u)) (unit_fill s u)

-- behind n keys none is listed for a unit
unfoldable pub none_behind : List ℕ → ℕ → ℕ → Bool
none_behind s u n = unkept s (u / 4) || no_keys n (byte s 5) (column_keys s u)

-- r ranks that all four units of group g have, by the counts; none where check unit k is behind the group's last
pub record Common (fills : List ℕ) (g k r : ℕ) : Type 0 where
  pub least : (p : ℕ) → p < 4 → r ≤ get_or fills (4 * g + p) 0
  pub alone : k ≡ 3 * g + 3 → r ≡ 0

-- the keys of a unit in place are its own, and no others are listed for it
unfoldable pub own_listed : List ℕ → ℕ → Bool
own_listed s u = own_keys (byte s 6) u (unit_fill s u) (beside_keys s u) && none_behind s u (unit_fill s u)

unfoldable pub unit_good : List ℕ → ℕ → Bool
unit_good s u = served_or_lost s u && own_listed s u

-- ---- units not in place: zeros, and no keys listed for those of the last group in place
unfoldable pub groups_in : List ℕ → ℕ
groups_in s = (byte s 6 + 3) / 4

unfoldable pub columns_empty : List ℕ → Bool
columns_empty s = all (4 * groups_in s) (λ u. ltb u (byte s 6) || none_behind s u 0)

unfoldable pub behind_zero : List ℕ → Bool
behind_zero s =
    zero_between s (slot_at (byte s 5) (byte s 6) 0) (slot_at (byte s 5) 16 0)
    && zero_between s (check_at (byte s 5) (3 * groups_in s) 0) (check_at (byte s 5) 12 0)

-- ---- a check unit: in service it lists the same keys as the first in service of its group, else its records are zero
unfoldable pub same_as_first : List ℕ → ℕ → Bool
same_as_first s c =
    eqb (first_check (view s) (c / 3)) c || same_lists s (check_at (byte s 5) (first_check (view s) (c / 3)) 0) (check_at (byte s 5) c 0) (byte s 5)

unfoldable pub check_zero : List ℕ → ℕ → Bool
check_zero s c = zero_between s (check_at (byte s 5) c 0) (check_at (byte s 5) c 0 + check_bytes * byte s 5)

unfoldable pub check_good : List ℕ → ℕ → Bool
check_good s c = pick (eqb (byte s (24 + c)) 1) (same_as_first s c) (check_zero s c)

-- ---- the test, in its order
unfoldable pub pieces : List ℕ → Bool
pieces s =
    ranges s
    && (all 16 (data_fits s) && all 12 (check_fits s))
    && all (byte s 6) (unit_good s)
    && columns_empty s
    && all (3 * groups_in s) (check_good s)
    && behind_zero s
