-- What is found in a line or a text: numbers and fields by their digits, and where a line ends.
use Rattle.std.specs.Prelude.{ℕ, ◌+◌, ◌≤◌, ◌≡◌, true, ◌&&◌, List, eqb, leb, length, Option, Some, None}
use Rattle.buffer.specs.Choice.{pick}
use Rattle.buffer.specs.Range.{first}
use Rattle.buffer.specs.Bytes.{byte}
use Rattle.group.specs.Widths.{field_bytes}
use Rattle.lines.specs.Digits.{field_digits, hex_at, number_at, bytes_at}

-- the number that the bytes of l write, where all of them are digits
unfoldable pub number_of : List ℕ → Option ℕ
number_of l = pick (hex_at l 0 (length l)) (Some (number_at l 0 (length l))) None

-- the field that they write, two digits for each byte
unfoldable pub field_of : List ℕ → Option (List ℕ)
field_of l = pick (hex_at l 0 field_digits) (Some (bytes_at l 0 field_bytes)) None

-- behind a space stand n bytes, and nothing behind them
pub record Spaced (t : List ℕ) (n : ℕ) : Type 0 where
  pub long : length t ≡ 1 + n
  pub space : byte t 0 ≡ 32

-- they are digits
pub record Numbered (t : List ℕ) (n : ℕ) : Type 0 where
  pub spaced : Spaced t n
  pub digits : hex_at t 1 n ≡ true

-- a key and a field stand there, each behind a space, and nothing behind them
pub record Keyed (t : List ℕ) : Type 0 where
  pub long : length t ≡ 10 + field_digits
  pub space : byte t 0 ≡ 32
  pub key : hex_at t 1 8 ≡ true
  pub second : byte t 9 ≡ 32
  pub field : hex_at t 10 field_digits ≡ true

-- the first place from a given one on that holds byte 0A, or the length where there is none
unfoldable pub line_end : List ℕ → ℕ → ℕ
line_end s from = first (length s) (λ k. leb from k && eqb (byte s k) 10)

-- a line that starts at a place ends at r; so r lies in the text, and not before the place if that does
pub record Ends (s : List ℕ) (from r : ℕ) : Type 0 where
  pub place : r ≡ line_end s from
  pub within : r ≤ length s
  pub behind : from ≤ length s → from ≤ r
