-- Numbers of 32 bits with their bytes in the other order, and the bytes of such a number.
use Rattle.std.specs.Prelude.{ℕ, ◌+◌, ◌*◌, ◌/◌, ◌%◌, ◌^◌, List}
use Rattle.buffer.specs.Bytes.{byte}

-- the little-endian number of 32 bits at a place
unfoldable pub le32 : List ℕ → ℕ → ℕ
le32 s at = byte s at + byte s (at + 1) * 256 + byte s (at + 2) * 65536 + byte s (at + 3) * 16777216

-- a number's four bytes in the other order
abbrev pub turn : ℕ → ℕ
turn x = x % 256 * 16777216 + x / 256 % 256 * 65536 + x / 65536 % 256 * 256 + x / 16777216

-- byte n of a number, the lowest being byte 0
unfoldable pub low_byte : ℕ → ℕ → ℕ
low_byte x n = x / 2 ^ (8 * n) % 256
