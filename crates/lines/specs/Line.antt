-- The lines that hallrun reads (document 01, "The program hallrun"): a letter, then, with nothing behind them, its arguments in capital
-- hexadecimal after single spaces, two digits, for keys eight, for fields 40: body, then stamp.
use Rattle.std.specs.Prelude.{ℕ, ◌+◌, ◌^◌, ◌<◌, ◌≡◌, Bool, true, false, ◌&&◌, ◌||◌, List, [], ◌∷◌, ◌++◌, eqb, ltb, length}
use Rattle.buffer.specs.Choice.{pick}
use Rattle.buffer.specs.Bytes.{byte, zeros}
use Rattle.group.specs.Widths.{field_bytes}
use Rattle.lines.specs.Digits.{field_digits, hex_at, number_at, bytes_at, hex, hex_bytes}

-- what a line says: its letter, 0 where the line is not readable; its b, unit, group or key; and its field
pub record Line : Type 0 where
  pub letter : ℕ
  pub number : ℕ
  pub field : List ℕ

abbrev pub line : ℕ → ℕ → List ℕ → Line
line c n x = record { letter = c; number = n; field = x }

unfoldable pub unreadable : Line
unreadable = line 0 0 (zeros field_bytes)

-- the digits of a letter's first argument: none for G, S, K and P; two for L, O and F; eight for E, R, T and C; 9 for any other byte
unfoldable pub digits_of : ℕ → ℕ
digits_of c =
    pick (eqb c 71 || eqb c 83 || eqb c 75 || eqb c 80) 0
    (pick (eqb c 76 || eqb c 79 || eqb c 70) 2
    (pick (eqb c 69 || eqb c 82 || eqb c 84 || eqb c 67) 8 9))

-- T and C have a field
unfoldable pub has_field : ℕ → Bool
has_field c = eqb c 84 || eqb c 67

-- the line of a letter, a number and a field
unfoldable pub written : Line → List ℕ
written x =
    x.letter
    ∷ (pick (eqb (digits_of x.letter) 0) [] (32 ∷ hex (digits_of x.letter) x.number)
    ++ pick (has_field x.letter) (32 ∷ hex_bytes field_bytes x.field) [])

-- the letter is one of these, the number has no more digits than its argument, and the field has its width, all zero where the line has no field
pub record Proper (x : Line) : Type 0 where
  pub known : ltb (digits_of x.letter) 9 ≡ true
  pub range : x.number < 16 ^ digits_of x.letter
  pub long : length x.field ≡ field_bytes
  pub bytes : (i : ℕ) → i < field_bytes → byte x.field i < 256
  pub none : has_field x.letter ≡ false → x.field ≡ zeros field_bytes

-- the length of a letter's lines: the letter, each argument and the space before it
unfoldable pub length_of : ℕ → ℕ
length_of c = pick (eqb (digits_of c) 0) 1 (2 + digits_of c + pick (has_field c) (1 + field_digits) 0)

-- the letter is one of these, nothing stands behind the arguments, and they are in their places
unfoldable pub readable : List ℕ → Bool
readable l =
    ltb (digits_of (byte l 0)) 9
    && eqb (length l) (length_of (byte l 0))
    && (eqb (digits_of (byte l 0)) 0 || eqb (byte l 1) 32 && hex_at l 2 (digits_of (byte l 0)))
    && pick (has_field (byte l 0)) (eqb (byte l 10) 32 && hex_at l 11 field_digits) true

-- what a line says
unfoldable pub parsed : List ℕ → Line
parsed l =
    pick (readable l)
    (line (byte l 0) (number_at l 2 (digits_of (byte l 0))) (pick (has_field (byte l 0)) (bytes_at l 11 field_bytes) (zeros field_bytes)))
    unreadable
