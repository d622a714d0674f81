-- The index of document 02, ask 8: entries of key, unit and rank, and the bytes of a slice that holds them: a count of 16 bits, then per entry key
-- (32 bits), unit (8 bits) and rank (8 bits), big-endian, zeros to the slice's end.
use Rattle.std.specs.Prelude.{ℕ, ◌+◌, ◌*◌, ◌-◌, ◌/◌, ◌%◌, List, [], ◌∷◌, ◌++◌, ltb, length}
use Rattle.buffer.specs.Choice.{pick}
use Rattle.buffer.specs.Bytes.{bytes32, zeros}
pub use Rattle.index.specs.declared.Entry.{Entry}

-- the widths of the count, and of an entry; where unit and rank stand in an entry; an entry's place
abbrev pub count_bytes : ℕ
count_bytes = 2

abbrev pub entry_width : ℕ
entry_width = 6

abbrev pub unit_offset : ℕ
unit_offset = 4

abbrev pub rank_offset : ℕ
rank_offset = 5

abbrev pub entry_at : ℕ → ℕ
entry_at i = count_bytes + entry_width * i

abbrev pub entry : ℕ → ℕ → ℕ → Entry
entry k u r = record { key = k; unit = u; rank = r }

-- ---- by rising key: an entry put into its place, and entries put there one after the other
unfoldable pub placed : Entry → List Entry → List Entry
placed e [] = e ∷ []
placed e (f ∷ fs) = pick (ltb e.key f.key) (e ∷ f ∷ fs) (f ∷ placed e fs)

unfoldable pub rising : List Entry → List Entry
rising [] = []
rising (e ∷ es) = placed e (rising es)

-- ---- the bytes
unfoldable pub entry_bytes : Entry → List ℕ
entry_bytes e = bytes32 e.key ++ (e.unit ∷ e.rank ∷ [])

-- those of entries, one behind the other
unfoldable pub entries_bytes : List Entry → List ℕ
entries_bytes [] = []
entries_bytes (e ∷ es) = entry_bytes e ++ entries_bytes es

-- a number of 16 bits, high byte first
unfoldable pub bytes16 : ℕ → List ℕ
bytes16 x = x / 256 % 256 ∷ x % 256 ∷ []

-- the slice of n bytes: the count, the entries, zeros to its end
unfoldable pub index_bytes : ℕ → List Entry → List ℕ
index_bytes n es = bytes16 (length es) ++ (entries_bytes es ++ zeros (n - entry_at (length es)))
