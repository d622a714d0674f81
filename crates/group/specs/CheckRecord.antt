-- Check records. Document 01: at each rank a check unit holds the four data keys of that rank in the clear and the parity bytes.
-- A slot is a key followed by a field.
use Rattle.std.specs.Prelude.{ℕ, ◌*◌, List, ◌++◌, take, drop}
use Rattle.buffer.specs.Bytes.{splice}
use Rattle.buffer.specs.Table.{tab}
use Rattle.group.specs.Widths.{key_bytes, keys_bytes}
use Rattle.group.specs.Parity.{parity, adjusted}

-- the check record at check place j over the slots of the four places: their keys, then the parity of their fields
unfoldable pub check_record : ℕ → (ℕ → List ℕ) → List ℕ
check_record j slots = tab 4 (λ p. take key_bytes (slots p)) ++ parity j (λ p. drop key_bytes (slots p))

-- a check record at check place j after the record of place p got this key, and its field this change
unfoldable pub patched : ℕ → ℕ → List ℕ → List ℕ → List ℕ → List ℕ
patched j p key change old = splice (key_bytes * p) key_bytes key (take keys_bytes old) ++ adjusted j p change (drop keys_bytes old)
