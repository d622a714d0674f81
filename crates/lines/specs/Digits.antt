-- Capital hexadecimal digits, as bytes of text.
use Rattle.std.specs.Prelude.{ℕ, zero, suc, ◌+◌, ◌*◌, ◌-◌, ◌/◌, ◌%◌, Bool, ◌&&◌, List, [], ◌∷◌, ◌++◌, leb, ltb}
use Rattle.buffer.specs.Choice.{pick}
use Rattle.buffer.specs.Range.{all}
use Rattle.buffer.specs.Loops.{entries}
use Rattle.buffer.specs.Bytes.{byte}
use Rattle.buffer.specs.Table.{tab}
use Rattle.group.specs.Widths.{field_bytes}

-- the value of a digit, 0 to 9 and A to F; 16 for any other byte
unfoldable pub digit : ℕ → ℕ
digit c = pick (leb 48 c && leb c 57) (c - 48) (pick (leb 65 c && leb c 70) (c - 55) 16)

-- the digit of a value below 16
unfoldable pub digit_of : ℕ → ℕ
digit_of v = pick (ltb v 10) (48 + v) (55 + v)

-- the n bytes of l from a place on are digits; and the number that they write, the highest digit first
unfoldable pub hex_at : List ℕ → ℕ → ℕ → Bool
hex_at l at n = all n (λ i. ltb (digit (byte l (at + i))) 16)

unfoldable pub number_at : List ℕ → ℕ → ℕ → ℕ
number_at l at zero = 0
number_at l at (suc n) = number_at l at n * 16 + digit (byte l (at + n))

-- the n bytes that 2 * n digits write, two digits each
unfoldable pub bytes_at : List ℕ → ℕ → ℕ → List ℕ
bytes_at l at n = entries n (λ i. number_at l (at + 2 * i) 2)

-- the n lowest digits of a number, the highest first
unfoldable pub hex : ℕ → ℕ → List ℕ
hex zero x = []
hex (suc n) x = hex n (x / 16) ++ (digit_of (x % 16) ∷ [])

-- n bytes, two digits each
unfoldable pub hex_bytes : ℕ → List ℕ → List ℕ
hex_bytes n s = tab n (λ i. hex 2 (byte s i))

-- the digits of a field
abbrev pub field_digits : ℕ
field_digits = 2 * field_bytes
