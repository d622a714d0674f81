-- The products of every byte with one symbol, looked up by the byte.
use Rattle.std.specs.Prelude.{ℕ, List}
use Rattle.buffer.specs.Loops.{entries}
use Rattle.code.specs.Scaling.{scale}

-- the products of every byte with the symbol w
unfoldable pub scaled_row : ℕ → List ℕ
scaled_row w = entries 256 (scale w)

-- the two rows in which parities are looked up: the coefficients of check place 0 are 8, 8 + 7, 1 and 7, and those of the other two the same, exchanged
abbrev pub first_row : List ℕ
first_row = scaled_row 8

abbrev pub second_row : List ℕ
second_row = scaled_row 7
