-- Columns of data, and segments. Document 02: "Column c is the value at point c of the polynomial of degree below m through points 0 to m-1." A reader
-- wants `column ds c`, of one byte of each data member, and `segment_of m n len d`, the n members of a segment with the data d.
use Rattle.std.specs.Prelude.{List, ℕ, length}
use Rattle.buffer.specs.Table.{tab}
use Rattle.buffer.specs.Loops.{entries}
use Rattle.coder.specs.Interpolated.{interpolated}
use Rattle.coder.specs.Segment.{member_byte}

unfoldable pub column : List ℕ → ℕ → ℕ
column ds c = interpolated (entries (length ds) (λ k. k)) ds c

-- the bytes j of the data members 0 to m - 1, which are d
unfoldable pub data_bytes : ℕ → ℕ → List ℕ → ℕ → List ℕ
data_bytes m len d j = entries m (member_byte len d j)

-- n members of len bytes each: member c is column c of the data
unfoldable pub segment_of : ℕ → ℕ → ℕ → List ℕ → List ℕ
segment_of m n len d = tab n (λ c. entries len (λ j. column (data_bytes m len d j) c))
