-- What the calls read from a store: records and their places, units out, slots rebuilt, and what is beyond recovery.
use Rattle.std.specs.Prelude.{ℕ, ◌+◌, ◌*◌, ◌-◌, ◌/◌, ◌%◌, List, ◌++◌, Bool, not, ◌&&◌, ◌||◌, eqb, ltb, take, drop}
use Rattle.buffer.specs.Choice.{pick}
use Rattle.buffer.specs.Range.{all, first, count, sum}
use Rattle.buffer.specs.Bytes.{part}
use Rattle.buffer.specs.Table.{tab}
use Rattle.group.specs.Widths.{key_bytes, keys_bytes}
use Rattle.group.specs.Members.{outs, checks_serving, rebuildable, serves}
use Rattle.group.specs.Rebuilding.{rebuilt}
use Rattle.model.specs.Units.{unit_of}
use Rattle.model.specs.Layout.{Store, units_in, key_of}

-- the unit of a key
unfoldable pub home_in : Store → ℕ → ℕ
home_in v k = unit_of (units_in v) k

-- the records of a unit: the ranks before the first slot with key 0; and the rank of a key among them, or their number where it is not there
unfoldable pub fill_in : Store → ℕ → ℕ
fill_in v u = first v.size (λ r. eqb (key_of (v.slot u r)) 0)

unfoldable pub rank_in : Store → ℕ → ℕ → ℕ
rank_in v u k = first (fill_in v u) (λ r. eqb (key_of (v.slot u r)) k)

-- the state of a unit: 0 to 15 data, 16 + 3g + j check
unfoldable pub state_in : Store → ℕ → ℕ
state_in v w = pick (ltb w 16) (v.dstate w) (v.cstate (w - 16))

-- how many units of a group are out, and of the whole store; and the check units of a group, out ones counted too
unfoldable pub outs_in : Store → ℕ → ℕ
outs_in v g = outs (λ p. v.dstate (4 * g + p)) (λ j. v.cstate (3 * g + j))

unfoldable pub units_out_in : Store → ℕ
units_out_in v = count 28 (λ w. eqb (state_in v w) 2)

unfoldable pub checks_in : Store → ℕ → ℕ
checks_in v g = count 3 (λ j. ltb 0 (v.cstate (3 * g + j)))

-- the first check unit in service of a group; 3g + 3, which is none of the group's, where there is none: what is listed there decides nothing, since
-- data units out are then beyond recovery
unfoldable pub first_check : Store → ℕ → ℕ
first_check v g = 3 * g + first 3 (λ j. eqb (v.cstate (3 * g + j)) 1)

-- the key of a slot, as bytes: its own, or for a unit out the one that a check unit lists
unfoldable pub listed_key : Store → ℕ → ℕ → List ℕ
listed_key v u r = pick (eqb (v.dstate u) 2) (part (key_bytes * (u % 4)) key_bytes (v.check (first_check v (u / 4)) r)) (take key_bytes (v.slot u r))

-- how many records a unit has by these keys; and the rank of a key among them, or their number where it is not there
unfoldable pub listed_fill : Store → ℕ → ℕ
listed_fill v u = first v.size (λ r. eqb (key_of (listed_key v u r)) 0)

unfoldable pub listed_rank : Store → ℕ → ℕ → ℕ
listed_rank v u k = first (listed_fill v u) (λ r. eqb (key_of (listed_key v u r)) k)

-- the record of a unit at a rank is missing: the unit is out, and a key is listed there
unfoldable pub missing_in : Store → ℕ → ℕ → Bool
missing_in v u r = eqb (v.dstate u) 2 && ltb r (listed_fill v u)

-- the members of a group in service at a rank, and the field or parity that each holds there
unfoldable pub serves_in : Store → ℕ → ℕ → ℕ → Bool
serves_in v g r m = serves (λ p. missing_in v (4 * g + p) r) (λ j. v.cstate (3 * g + j)) m

unfoldable pub holds : Store → ℕ → ℕ → ℕ → List ℕ
holds v g r m = pick (ltb m 4) (drop key_bytes (v.slot (4 * g + m) r)) (drop keys_bytes (v.check (3 * g + (m - 4)) r))

-- a slot, rebuilt where its record is missing: key and field; else as it stands, which at a rank that an out unit has no key for is zero
unfoldable pub whole_slot : Store → ℕ → ℕ → List ℕ
whole_slot v u r = pick (missing_in v u r) (listed_key v u r ++ rebuilt (serves_in v (u / 4) r) (holds v (u / 4) r) (u % 4)) (v.slot u r)

-- the field of a key
unfoldable pub field_in : Store → ℕ → List ℕ
field_in v k = drop key_bytes (whole_slot v (home_in v k) (listed_rank v (home_in v k) k))

-- ---- beyond recovery: 8 (document 02, ask 5)
-- a rank of a group can be rebuilt
unfoldable pub rebuildable_in : Store → ℕ → ℕ → Bool
rebuildable_in v g r = rebuildable (λ p. missing_in v (4 * g + p) r) (λ j. v.cstate (3 * g + j))

-- a data unit is out and no check unit of its group is in service: nothing lists its keys
unfoldable pub keys_lost_in : Store → ℕ → Bool
keys_lost_in v u = eqb (v.dstate u) 2 && eqb (checks_serving (λ j. v.cstate (3 * (u / 4) + j))) 0

-- a key, for read: its unit is such a one, or its record is missing at a rank that can't be rebuilt. No record of a key that isn't listed is missing.
unfoldable pub key_beyond_in : Store → ℕ → Bool
key_beyond_in v k =
    let u : ℕ = home_in v k in
    let r : ℕ = listed_rank v u k in
    keys_lost_in v u || missing_in v u r && not (rebuildable_in v (u / 4) r)

-- a group, for repair: one of its data units is such a one, or one of its ranks can't be rebuilt
unfoldable pub beyond_in : Store → ℕ → Bool
beyond_in v g = ltb 0 (count 4 (λ p. keys_lost_in v (4 * g + p))) || not (all v.size (rebuildable_in v g))

-- the store, for list: a group is. Ranks without a missing record can always be rebuilt.
unfoldable pub lost_in : Store → Bool
lost_in v = ltb 0 (count 4 (beyond_in v))

-- ---- all records
-- how many records there are, and their bytes by unit and then rank: what list counts and writes
unfoldable pub total_in : Store → ℕ
total_in v = sum 16 (listed_fill v)

unfoldable pub listing_in : Store → List ℕ
listing_in v = tab 16 (λ u. tab (listed_fill v u) (whole_slot v u))
