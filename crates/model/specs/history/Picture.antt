-- The picture of a ledger (document 01, "The ledger"): the store's bytes as the ledger sees them.
use Rattle.std.specs.Prelude.{ℕ, ◌+◌, ◌*◌, ◌/◌, ◌%◌, List, ◌++◌, eqb}
use Rattle.buffer.specs.Choice.{pick}
use Rattle.buffer.specs.Bytes.{bytes32, zeros}
use Rattle.buffer.specs.Table.{tab}
use Rattle.group.specs.Widths.{slot_bytes, check_bytes}
use Rattle.group.specs.Parity.{parity}
use Rattle.model.specs.Layout.{Store, store, bytes, front_of}
use Rattle.model.specs.history.Ledger.{Rec, Ledger, record_at, state}

-- a record's bytes: key and field
unfoldable pub record_bytes : Rec → List ℕ
record_bytes x = bytes32 x.key ++ x.field

-- data units in service with their lists; all else zero
unfoldable pub picture_slot : Ledger → ℕ → ℕ → List ℕ
picture_slot l u r = pick (eqb (state l u) 1) (record_bytes (record_at l u r)) (zeros slot_bytes)

-- a check record over the records of a group's four places: the keys, and the fields times the unit's column
unfoldable pub check_over : ℕ → (ℕ → Rec) → List ℕ
check_over j f = tab 4 (λ p. bytes32 (f p).key) ++ parity j (λ p. (f p).field)

-- check units in service with each rank's four keys and its fields times the unit's column, a missing record as zeros; all else zero
unfoldable pub picture_check : Ledger → ℕ → ℕ → List ℕ
picture_check l c r = pick (eqb (state l (16 + c)) 1) (check_over (c % 3) (λ p. record_at l (4 * (c / 3) + p) r)) (zeros check_bytes)

-- the parts of the store: header and states by the ledger; rest is what the slice has behind the store
unfoldable pub image : Ledger → List ℕ → Store
image l rest = store (front_of l.size l.units l.level) (state l) (λ c. state l (16 + c)) l.size (picture_slot l) (picture_check l) rest

abbrev pub picture : Ledger → List ℕ → List ℕ
picture l rest = bytes (image l rest)
