-- What the bytes of an index say: its count, and its entries by place, from 0.
use Rattle.std.specs.Prelude.{ℕ, ◌+◌, ◌*◌, List}
use Rattle.buffer.specs.Bytes.{byte, be32}
use Rattle.index.specs.Entries.{Entry, entry, unit_offset, rank_offset, entry_at}

unfoldable pub count_in : List ℕ → ℕ
count_in x = byte x 0 * 256 + byte x 1

abbrev pub read_key : List ℕ → ℕ → ℕ
read_key x i = be32 x (entry_at i)

abbrev pub read_unit : List ℕ → ℕ → ℕ
read_unit x i = byte x (entry_at i + unit_offset)

abbrev pub read_rank : List ℕ → ℕ → ℕ
read_rank x i = byte x (entry_at i + rank_offset)

abbrev pub entry_in : List ℕ → ℕ → Entry
entry_in x i = entry (read_key x i) (read_unit x i) (read_rank x i)
