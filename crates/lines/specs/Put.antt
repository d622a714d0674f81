-- Lines written into a buffer: how long they are, and what they leave.
use Rattle.std.specs.Prelude.{ℕ, ◌+◌, ◌*◌, ◌≡◌, List, [], ◌∷◌, ◌++◌, length, drop}
use Rattle.buffer.specs.Bytes.{splice}
use Rattle.group.specs.Widths.{field_bytes, slot_bytes}
use Rattle.lines.specs.Digits.{hex_bytes}

-- the longest line of a number below 100
abbrev pub number_bytes : ℕ
number_bytes = 3

-- the line of a granted read: the digits of a field, with two bytes before them and one behind
abbrev pub field_line_bytes : ℕ
field_line_bytes = 3 + 2 * field_bytes

-- the line of a record: four arguments of two digits a byte, each with a byte behind it
abbrev pub record_line_bytes : ℕ
record_line_bytes = 4 + 2 * (2 + slot_bytes)

-- a line with the digits of bytes x written at a place, and a byte behind them
unfoldable pub argument_put : List ℕ → ℕ → List ℕ → ℕ → List ℕ
argument_put l at x behind = splice at (2 * length x + 1) (hex_bytes (length x) x ++ (behind ∷ [])) l

-- a text at the front of a buffer, with the old rest
abbrev pub over : List ℕ → List ℕ → List ℕ
over text old = text ++ drop (length text) old

-- a buffer that was old and now has the text l at its front, which is size bytes long
pub record Put (l old new : List ℕ) (size : ℕ) : Type 0 where
  pub long : size ≡ length l
  pub bytes : new ≡ over l old
