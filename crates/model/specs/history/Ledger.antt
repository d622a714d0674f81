-- Document 01, "The ledger": lists of records, fed by the calls' arguments alone, never by an answer or a byte of the store. With the store it
-- shares what document 01 itself shares, the unit of a key, the split unit and the calls, and the general `filter_by`.
use Rattle.std.specs.Prelude.{ℕ, suc, pred, ◌+◌, ◌*◌, ◌-◌, ◌/◌, ◌%◌, List, [], ◌∷◌, ◌++◌, Bool, true, false, not, ◌&&◌, ◌||◌, eqb, ltb, leb, length, take, get_or, set}
use Rattle.buffer.specs.Choice.{pick}
use Rattle.buffer.specs.Range.{all, first, count, sum}
use Rattle.buffer.specs.Bytes.{zeros}
use Rattle.buffer.specs.Table.{upd}
use Rattle.group.specs.Widths.{field_bytes}
use Rattle.model.specs.Units.{unit_of, split_pointer}
use Rattle.model.specs.Numbers.{Call, teach, correct, erase, read, read_in_place, list, unit_out, repair, grow, shrink, raise}
use Rattle.model.specs.Changes.{filter_by}

pub record Rec : Type 0 where
  pub key : ℕ
  pub field : List ℕ

-- what a missing record counts as
unfoldable pub empty : Rec
empty = record { key = 0; field = zeros field_bytes }

pub record Ledger : Type 0 where
  pub size : ℕ  -- b, the ranks of a unit
  pub units : ℕ  -- M, the data units
  pub level : ℕ  -- K
  pub records : ℕ → List Rec  -- data unit → its records; the rank is the place in the list
  pub out : ℕ → Bool  -- the units marked out: data units 0 to 15, check units 16 + 3g + j

-- a ledger of these parts
abbrev pub ledger : ℕ → ℕ → ℕ → (ℕ → List Rec) → (ℕ → Bool) → Ledger
ledger size units level records out = record { size = size; units = units; level = level; records = records; out = out }

-- a granted layout opens it: b as given, M = 1, K = 1, an empty list of records per data unit, none out
unfoldable pub opened : ℕ → Ledger
opened b = ledger b 1 1 (λ u. []) (λ w. false)

-- the unit of a key; the record at a rank; the place of a key in a list, or the list's length
unfoldable pub home : Ledger → ℕ → ℕ
home l k = unit_of l.units k

unfoldable pub record_at : Ledger → ℕ → ℕ → Rec
record_at l u r = get_or (l.records u) r empty

unfoldable pub rank_of : List Rec → ℕ → ℕ
rank_of rs k = first (length rs) (λ r. eqb (get_or rs r empty).key k)

-- a unit in place, one out, and its state as a number: 0 not in place, 1 in service, 2 out. A group with a data unit in place has K check units.
unfoldable pub placed : Ledger → ℕ → Bool
placed l w = pick (ltb w 16) (ltb w l.units) (ltb (4 * ((w - 16) / 3)) l.units && ltb ((w - 16) % 3) l.level)

unfoldable pub is_out : Ledger → ℕ → Bool
is_out l w = placed l w && l.out w

unfoldable pub state : Ledger → ℕ → ℕ
state l w = pick (placed l w) (pick (l.out w) 2 1) 0

-- the units of a group that are out, and all that are
unfoldable pub outs_of : Ledger → ℕ → ℕ
outs_of l g = count 4 (λ p. is_out l (4 * g + p)) + count 3 (λ j. is_out l (16 + (3 * g + j)))

unfoldable pub units_out : Ledger → ℕ
units_out l = count 28 (is_out l)

-- ---- beyond recovery (document 02, ask 5)
-- the record of a data unit at a rank is missing: the unit is out, and its list is longer than the rank
unfoldable pub missing_of : Ledger → ℕ → ℕ → Bool
missing_of l u r = is_out l u && ltb r (length (l.records u))

-- the check units of a group in service; a rank of it can be rebuilt when its records in out data units are no more than these
unfoldable pub checks_serving_of : Ledger → ℕ → ℕ
checks_serving_of l g = count 3 (λ j. eqb (state l (16 + (3 * g + j))) 1)

unfoldable pub rebuildable_of : Ledger → ℕ → ℕ → Bool
rebuildable_of l g r = leb (count 4 (λ p. missing_of l (4 * g + p) r)) (checks_serving_of l g)

-- a data unit is out and no check unit of its group is in service
unfoldable pub keys_lost_of : Ledger → ℕ → Bool
keys_lost_of l u = is_out l u && eqb (checks_serving_of l (u / 4)) 0

-- a key, for read: its unit is such a one, or its record is missing at a rank that can't be rebuilt
unfoldable pub key_beyond_of : Ledger → ℕ → Bool
key_beyond_of l k =
    let u : ℕ = home l k in
    let r : ℕ = rank_of (l.records u) k in
    keys_lost_of l u || missing_of l u r && not (rebuildable_of l (u / 4) r)

-- a group, for repair: one of its data units is such a one, or one of its ranks can't be rebuilt; and the store, for list: a group is
unfoldable pub beyond_of : Ledger → ℕ → Bool
beyond_of l g = ltb 0 (count 4 (λ p. keys_lost_of l (4 * g + p))) || not (all l.size (rebuildable_of l g))

unfoldable pub lost : Ledger → Bool
lost l = ltb 0 (count 4 (beyond_of l))

-- all records
unfoldable pub total : Ledger → ℕ
total l = sum 16 (λ u. length (l.records u))

-- ---- the changes

-- the list of unit u replaced
unfoldable pub with_records : Ledger → ℕ → List Rec → Ledger
with_records l u rs = ledger l.size l.units l.level (upd l.records u rs) l.out

-- the group of a unit
unfoldable pub group_of : ℕ → ℕ
group_of w = pick (ltb w 16) (w / 4) ((w - 16) / 3)

-- grow deals list n out again, in order, by the new M
unfoldable pub grown_ledger : Ledger → Ledger
grown_ledger l =
    let m : ℕ = l.units in
    let n : ℕ = split_pointer m in
    ledger l.size (suc m) l.level
    (λ u. pick (eqb u m || eqb u n) (filter_by (λ x. eqb (unit_of (suc m) x.key) u) (l.records n)) (l.records u)) l.out

-- shrink puts the last list, of unit m, behind that of the unit it was split from
unfoldable pub shrunk_ledger : Ledger → ℕ → Ledger
shrunk_ledger l m =
    let n : ℕ = split_pointer m in
    ledger l.size m l.level
    (λ u. pick (eqb u m) [] (pick (eqb u n) (l.records n ++ l.records m) (l.records u))) l.out

-- the ledger after a granted call
unfoldable pub granted : Ledger → Call → Ledger
-- teach adds its record at the end of the list of the key's unit
granted l (teach k x) = with_records l (home l k) (l.records (home l k) ++ (record { key = k; field = x } ∷ []))
-- correct replaces the field
granted l (correct k x) = with_records l (home l k) (set (l.records (home l k)) (rank_of (l.records (home l k)) k) (record { key = k; field = x }))
-- erase moves the list's last record into the freed place
granted l (erase k) =
    let rs : List Rec = l.records (home l k) in
    with_records l (home l k) (take (pred (length rs)) (set rs (rank_of rs k) (get_or rs (pred (length rs)) empty)))
granted l (read k out) = l
granted l (read_in_place k) = l
granted l (list out) = l
-- unit out marks a unit out, repair unmarks its group's; neither touches a list
granted l (unit_out w) = ledger l.size l.units l.level l.records (upd l.out w true)
granted l (repair g) = ledger l.size l.units l.level l.records (λ w. not (eqb (group_of w) g) && l.out w)
granted l grow = grown_ledger l
granted l shrink = shrunk_ledger l (pred l.units)
-- raise adds one to K
granted l raise = ledger l.size l.units (suc l.level) l.records l.out
