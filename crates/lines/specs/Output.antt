-- The lines that hallrun prints: each line's number in decimal; behind a granted R a space and the field; behind a granted P a line for each
-- record: unit, rank, key, field, in the form of arguments. Every line ends in byte 0A.
use Rattle.std.specs.Prelude.{ℕ, ◌+◌, ◌/◌, ◌%◌, List, [], ◌∷◌, ◌++◌, ltb, take, drop}
use Rattle.buffer.specs.Choice.{pick}
use Rattle.group.specs.Widths.{key_bytes, field_bytes}
use Rattle.lines.specs.Digits.{hex, hex_bytes}

-- a number below 100 in decimal
unfoldable pub decimal : ℕ → List ℕ
decimal n = pick (ltb n 10) ((48 + n) ∷ []) ((48 + n / 10) ∷ (48 + n % 10) ∷ [])

unfoldable pub number_line : ℕ → List ℕ
number_line n = decimal n ++ (10 ∷ [])

-- a granted R: 0, a space and the field
unfoldable pub field_line : List ℕ → List ℕ
field_line field = 48 ∷ 32 ∷ (hex_bytes field_bytes field ++ (10 ∷ []))

-- a record of unit u at rank r; the record is its key's four bytes and its field
unfoldable pub record_line : ℕ → ℕ → List ℕ → List ℕ
record_line u r x = hex 2 u ++ (32 ∷ (hex 2 r ++ (32 ∷ (hex_bytes key_bytes (take key_bytes x) ++ (32 ∷ (hex_bytes field_bytes (drop key_bytes x) ++ (10 ∷ [])))))))
