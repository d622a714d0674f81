-- The widths of a record's parts, in bytes (document 01, "Bytes of a store"; document 02, ask 4). Every length that depends on one is given by
-- these names.
use Rattle.std.specs.Prelude.{ℕ, ◌+◌, ◌*◌}

-- a key
abbrev pub key_bytes : ℕ
key_bytes = 4

-- a record's field: its body, and behind that its stamp
abbrev pub body_bytes : ℕ
body_bytes = 16

abbrev pub stamp_bytes : ℕ
stamp_bytes = 4

abbrev pub field_bytes : ℕ
field_bytes = body_bytes + stamp_bytes

-- a slot: a key and a field
abbrev pub slot_bytes : ℕ
slot_bytes = key_bytes + field_bytes

-- the keys of a check record, one for each place of the group; and the whole record: these and the parity
abbrev pub keys_bytes : ℕ
keys_bytes = 4 * key_bytes

abbrev pub check_bytes : ℕ
check_bytes = keys_bytes + field_bytes
