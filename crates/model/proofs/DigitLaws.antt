-- Laws of the digit sum: a byte at a time, its bound, and that it does not depend on the order of a key's bytes.
use Rattle.std.specs.Prelude.{◌≡◌, ℕ, ◌+◌, ◌*◌, ◌/◌, ◌%◌, ◌≤◌, ◌<◌}
use Rattle.std.proofs.Common.{sym, ap, ◌∙◌, arith, shr-shr}
use Rattle.std.proofs.Math.Arith.{digits_div}
use Rattle.buffer.specs.Range.{sum}
use Rattle.model.specs.Units.{digit_sum}

-- the eight digits written out
digit_sum_is : (k : ℕ)
    → digit_sum k ≡ k % 16 + k / 16 % 16 + k / 256 % 16 + k / 4096 % 16 + k / 65536 % 16 + k / 1048576 % 16 + k / 16777216 % 16 + k / 268435456 % 16
unfolding digit_sum sum
digit_sum_is k = omega arith

-- ---- a byte at a time
-- the sum of the two digits of a number's lowest byte
unfoldable pub byte_sum : ℕ → ℕ
byte_sum y = y % 16 + y / 16 % 16

pub byte_sum_most : (y : ℕ) → byte_sum y ≤ 30
unfolding byte_sum
byte_sum_most y = omega arith

by_twos : {n : ℕ} (s t u v w x y z : ℕ) → n ≡ s + t + u + v + w + x + y + z → n ≡ s + t + (u + v) + (w + x) + (y + z)
by_twos s t u v w x y z e = omega arith

pub by_bytes : (k : ℕ) → digit_sum k ≡ byte_sum k + byte_sum (k / 256) + byte_sum (k / 65536) + byte_sum (k / 16777216)
unfolding byte_sum
by_bytes k =
    let one : k / 256 / 16 ≡ k / 4096 = shr-shr k 8 4 in
    let two : k / 65536 / 16 ≡ k / 1048576 = shr-shr k 16 4 in
    let three : k / 16777216 / 16 ≡ k / 268435456 = shr-shr k 24 4 in
    rw (one, two, three) (by_twos _ _ _ _ _ _ _ _ (digit_sum_is k))

pub digit_sum_most : (k : ℕ) → digit_sum k ≤ 120
digit_sum_most k =
    omega (arith, by_bytes k, byte_sum_most k, byte_sum_most (k / 256), byte_sum_most (k / 65536), byte_sum_most (k / 16777216))

-- ---- the order of the bytes
low : (q : ℕ) {r : ℕ} → r < 256 → byte_sum (q * 256 + r) ≡ byte_sum r
unfolding byte_sum
low q h = omega arith

-- of four bytes, high byte first
of_bytes : (a b c d : ℕ) → a < 256 → b < 256 → c < 256 → d < 256
    → digit_sum (((a * 256 + b) * 256 + c) * 256 + d) ≡ byte_sum d + byte_sum c + byte_sum b + byte_sum a
of_bytes a b c d ha hb hc hd =
    let k : ℕ = ((a * 256 + b) * 256 + c) * 256 + d in
    let one : k / 256 ≡ (a * 256 + b) * 256 + c = digits_div ((a * 256 + b) * 256 + c) hd in
    let two : k / 65536 ≡ a * 256 + b = sym (shr-shr k 8 8) ∙ ap (λ (n : ℕ). n / 256) one ∙ digits_div (a * 256 + b) hc in
    let three : k / 16777216 ≡ a = sym (shr-shr k 16 8) ∙ ap (λ (n : ℕ). n / 256) two ∙ digits_div a hb in
    by_bytes k ∙ rw (one, two, three, low ((a * 256 + b) * 256 + c) hd, low (a * 256 + b) hc, low a hb)

-- four bytes read high byte first and low byte first
pub digit_sum_turned : (a b c d : ℕ) → a < 256 → b < 256 → c < 256 → d < 256
    → digit_sum (a + b * 256 + c * 65536 + d * 16777216) ≡ digit_sum (a * 16777216 + b * 65536 + c * 256 + d)
digit_sum_turned a b c d ha hb hc hd =
    let high : a * 16777216 + b * 65536 + c * 256 + d ≡ ((a * 256 + b) * 256 + c) * 256 + d = omega arith in
    let other : a + b * 256 + c * 65536 + d * 16777216 ≡ ((d * 256 + c) * 256 + b) * 256 + a = omega arith in
    let turned : byte_sum a + byte_sum b + byte_sum c + byte_sum d ≡ byte_sum d + byte_sum c + byte_sum b + byte_sum a = omega arith in
    ap digit_sum other ∙ of_bytes d c b a hd hc hb ha ∙ turned ∙ sym (of_bytes a b c d ha hb hc hd) ∙ ap digit_sum (sym high)
