-- `group::parities::Rows::mix_words` meets its contract.
use Prim.Native.Nat.{ℕ, ◌<◌}
use mathlib.Core.List.{List}
use mathlib.Core.Path.{◌≡◌, refl, ◌∙◌}
use native.Mathlib.Omega.{arith}
use lib.ListN.{get_or}
use Rattle.std.specs.Int.{to_le_bytes, w32}
use Rattle.std.specs.Int.Bits.{bit_xor}
use Rattle.buffer.specs.Loops.{entries}
use Rattle.buffer.specs.ByteOrder.{low_byte}
use Rattle.buffer.specs.RangeLaws.{below-four}
use Rattle.code.specs.Scaling.{scale}
use Rattle.group.specs.FirstSums.{first_sum, first_sums}
use Rattle.group.proofs.ParitySums.{mixed_byte}
use Rattle.group.proofs.parities.Rows.mix_words.Goals as goal

-- byte n of a word
byte_is : (x n : ℕ) → n < 4 → get_or (to_le_bytes w32 x) n 0 ≡ low_byte x n
unfolding low_byte
byte_is x = below-four (λ n. get_or (to_le_bytes w32 x) n 0 ≡ low_byte x n) (omega arith) refl refl refl

byte_sum : (a b c d n v : ℕ) (x y z : List ℕ) → n < 4 → x ≡ to_le_bytes w32 (bit_xor a b) → y ≡ to_le_bytes w32 (bit_xor b d) → z ≡ to_le_bytes w32 c
    → v ≡ bit_xor (bit_xor (scale 8 (get_or x n 0)) (scale 7 (get_or y n 0))) (get_or z n 0)
    → v ≡ first_sum (low_byte a n) (low_byte b n) (low_byte c n) (low_byte d n)
byte_sum a b c d n v x y z l ex ey ez e =
    e ∙ rw (ex, ey, ez, byte_is (bit_xor a b) n l, byte_is (bit_xor b d) n l, byte_is c n l) (mixed_byte a b c d n)

pub returns : goal.returns
unfolding first_sums entries
returns c =
    let a = c.args in
    let sum : (n v : ℕ) → n < 4 → _ → v ≡ first_sum (low_byte a.a n) (low_byte a.b n) (low_byte a.c n) (low_byte a.d n) =
    λ n v l. byte_sum a.a a.b a.c a.d n v _ _ _ l c.to_le_bytes-x.ensures c.to_le_bytes-y.ensures c.to_le_bytes-z.ensures in
    rw (
      sum 0 _ (omega arith) c.sum.ensures,
      sum 1 _ (omega arith) c.sum-2.ensures,
      sum 2 _ (omega arith) c.sum-3.ensures,
      sum 3 _ (omega arith) c.sum-4.ensures,
    )
