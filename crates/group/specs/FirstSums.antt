-- The sum of four bytes, each times its coefficient in check place 0, and these sums of the bytes of four words.
use Rattle.std.specs.Prelude.{ℕ, List}
use Rattle.std.specs.Int.Bits.{bit_xor}
use Rattle.buffer.specs.Loops.{entries}
use Rattle.buffer.specs.ByteOrder.{low_byte}
use Rattle.code.specs.Scaling.{scale}
use Rattle.group.specs.Parity.{coefficient}

abbrev pub first_sum : ℕ → ℕ → ℕ → ℕ → ℕ
first_sum a b c d = bit_xor (bit_xor (bit_xor (scale (coefficient 0 0) a) (scale (coefficient 1 0) b)) (scale (coefficient 2 0) c)) (scale (coefficient 3 0) d)

-- lowest bytes first
unfoldable pub first_sums : ℕ → ℕ → ℕ → ℕ → List ℕ
first_sums a b c d = entries 4 (λ n. first_sum (low_byte a n) (low_byte b n) (low_byte c n) (low_byte d n))
