-- Document 02, ask 8, on an example: three records, taught as keys 300, 5 and 7, in a slice of 24 bytes.
use Rattle.std.specs.Prelude.{◌≡◌, refl, true, false, List, [], ◌∷◌, ℕ}
use Rattle.buffer.specs.Choice.{pick}
use Rattle.buffer.specs.Bytes.{be32, bytes32, zeros, part, splice}
use Rattle.buffer.specs.Range.{all, first}
use Rattle.buffer.specs.Loops.{all_zero, entries}
use Rattle.index.specs.Entries.{Entry, entry, placed, rising, entry_bytes, entries_bytes, bytes16, index_bytes}
use Rattle.index.specs.Order.{without, no_entry, spot}
use Rattle.index.specs.Reading.{count_in, entry_in}
use Rattle.index.specs.Form.{zero_behind, inserted_in, removed_in, changed_in}

abbrev taught : List Entry
taught = entry 300 2 1 ∷ entry 5 0 1 ∷ entry 7 0 2 ∷ []

abbrev slice : List ℕ
slice = 0 ∷ 3 ∷ 0 ∷ 0 ∷ 0 ∷ 5 ∷ 0 ∷ 1 ∷ 0 ∷ 0 ∷ 0 ∷ 7 ∷ 0 ∷ 2 ∷ 0 ∷ 0 ∷ 1 ∷ 44 ∷ 2 ∷ 1 ∷ 0 ∷ 0 ∷ 0 ∷ 0 ∷ []

written : index_bytes 24 (rising taught) ≡ slice
unfolding index_bytes entries_bytes entry_bytes bytes16 bytes32 rising placed pick zeros
written = refl

read : entries (count_in slice) (entry_in slice) ≡ rising taught
unfolding entries count_in be32 rising placed pick
read = refl

-- zeros behind three entries, and not behind two
ends : (zero_behind slice 3 ≡ true) × (zero_behind slice 2 ≡ false)
unfolding zero_behind all_zero all
ends = (refl, refl)

inserted : inserted_in 2 2 (entry 300 2 1) (index_bytes 24 (entry 5 0 1 ∷ entry 7 0 2 ∷ [])) ≡ slice
unfolding inserted_in splice part index_bytes entries_bytes entry_bytes bytes16 bytes32 zeros
inserted = refl

removed : removed_in 3 1 slice ≡ index_bytes 24 (without 7 (rising taught))
unfolding removed_in splice part index_bytes entries_bytes entry_bytes bytes16 bytes32 zeros without rising placed pick
removed = refl

changed : changed_in 1 9 4 slice ≡ index_bytes 24 (entry 5 0 1 ∷ entry 7 9 4 ∷ entry 300 2 1 ∷ [])
unfolding changed_in splice index_bytes entries_bytes entry_bytes bytes16 bytes32 zeros
changed = refl

found : (spot 7 (rising taught) ≡ 1) × (spot 8 (rising taught) ≡ 2) × (spot 301 (rising taught) ≡ 3)
unfolding spot first rising placed pick no_entry
found = (refl, refl, refl)
