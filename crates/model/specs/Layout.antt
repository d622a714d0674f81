-- Document 01, "Bytes of a store": its parts by name (`Store`), the bytes that the parts fill (`bytes`), and the parts of given bytes (`view`).
-- Ranks are counted from 0 here.
use Rattle.std.specs.Prelude.{ℕ, ◌+◌, ◌*◌, List, [], ◌∷◌, ◌++◌, take, drop}
use Rattle.buffer.specs.Bytes.{byte, be32, bytes32, part}
use Rattle.buffer.specs.Table.{tab}
use Rattle.group.specs.Widths.{slot_bytes, check_bytes}

-- byte 0: the version
abbrev pub version : ℕ
version = 4

-- version, length, b, M, K and the states of 16 data units and 12 check units
abbrev pub header_bytes : ℕ
header_bytes = 36

-- the whole store: 36 + 816b
abbrev pub store_bytes : ℕ → ℕ
store_bytes b = header_bytes + (16 * slot_bytes + 12 * check_bytes) * b

pub record Store : Type 0 where
  pub front : List ℕ  -- version, length, b, M and K: 8 bytes
  pub dstate : ℕ → ℕ  -- data unit → its state: 0 not in place, 1 in service, 2 out
  pub cstate : ℕ → ℕ  -- check unit → its state; check unit j of group g is 3g + j
  pub size : ℕ  -- b, the ranks of a unit
  pub slot : ℕ → ℕ → List ℕ  -- data unit, rank → the slot: key and field
  pub check : ℕ → ℕ → List ℕ  -- check unit, rank → the check record: four keys by place in the group, parity
  pub rest : List ℕ  -- what the slice has behind the store

-- a store of these parts, in this order
abbrev pub store : List ℕ → (ℕ → ℕ) → (ℕ → ℕ) → ℕ → (ℕ → ℕ → List ℕ) → (ℕ → ℕ → List ℕ) → List ℕ → Store
store front d c size slot check rest = record { front = front; dstate = d; cstate = c; size = size; slot = slot; check = check; rest = rest }

-- its bytes
unfoldable pub bytes : Store → List ℕ
bytes s =
    s.front ++ (tab 16 (λ u. s.dstate u ∷ []) ++ (tab 12 (λ c. s.cstate c ∷ [])
    ++ (tab 16 (λ u. tab s.size (s.slot u)) ++ (tab 12 (λ c. tab s.size (s.check c)) ++ s.rest))))

-- where a slot and a check record stand, with b ranks to a unit
abbrev pub slot_at : ℕ → ℕ → ℕ → ℕ
slot_at b u r = header_bytes + (u * b + r) * slot_bytes

abbrev pub check_at : ℕ → ℕ → ℕ → ℕ
check_at b c r = header_bytes + 16 * slot_bytes * b + (c * b + r) * check_bytes

-- the parts of given bytes, in which byte 5 is b
unfoldable pub view : List ℕ → Store
view x =
    let b : ℕ = byte x 5 in
    store (take 8 x) (λ u. byte x (8 + u)) (λ c. byte x (24 + c)) b
    (λ u r. part (slot_at b u r) slot_bytes x) (λ c r. part (check_at b c r) check_bytes x) (drop (store_bytes b) x)

-- M and K, the store's level
unfoldable pub units_in : Store → ℕ
units_in v = byte v.front 6

unfoldable pub level_in : Store → ℕ
level_in v = byte v.front 7

-- a slot's bytes: a key and a field; and the key of a slot, or of the first bytes of a list
unfoldable pub slot_of : ℕ → List ℕ → List ℕ
slot_of k field = bytes32 k ++ field

unfoldable pub key_of : List ℕ → ℕ
key_of x = be32 x 0

-- the first 8 bytes of a store with b ranks, m units and level k
unfoldable pub front_of : ℕ → ℕ → ℕ → List ℕ
front_of b m k = version ∷ (bytes32 (store_bytes b) ++ (b ∷ m ∷ k ∷ []))

-- a store with these parts and the size and the rest of s
abbrev pub changed : Store → List ℕ → (ℕ → ℕ) → (ℕ → ℕ) → (ℕ → ℕ → List ℕ) → (ℕ → ℕ → List ℕ) → Store
changed s front dstate cstate slot check = store front dstate cstate s.size slot check s.rest
