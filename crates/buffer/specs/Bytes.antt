-- Bytes of a buffer: one byte, a number of 32 bits, a part, and a part replaced. Reads are total: past the end counts as 0.
use Rattle.std.specs.Prelude.{ℕ, ◌+◌, ◌*◌, ◌/◌, ◌%◌, List, [], ◌∷◌, ◌++◌, get_or, take, drop, replicate}

-- the byte at a place, 0 past the end
abbrev pub byte : List ℕ → ℕ → ℕ
byte s at = get_or s at 0

-- the big-endian number of 32 bits at a place; bytes past the end count as 0
unfoldable pub be32 : List ℕ → ℕ → ℕ
be32 s at = byte s at * 16777216 + byte s (at + 1) * 65536 + byte s (at + 2) * 256 + byte s (at + 3)

-- the four bytes of a number of 32 bits, high byte first
unfoldable pub bytes32 : ℕ → List ℕ
bytes32 x = x / 16777216 % 256 ∷ x / 65536 % 256 ∷ x / 256 % 256 ∷ x % 256 ∷ []

-- n zero bytes
unfoldable pub zeros : ℕ → List ℕ
zeros n = replicate n 0

-- the part of n bytes at a place
unfoldable pub part : ℕ → ℕ → List ℕ → List ℕ
part at n s = take n (drop at s)

-- s with the part of n bytes at a place replaced
unfoldable pub splice : ℕ → ℕ → List ℕ → List ℕ → List ℕ
splice at n new s = take at s ++ (new ++ drop n (drop at s))
