-- The digit sum by masks, shifts and sums.
use mathlib.Core.Path.{◌≡◌, sym, ap, ap₂, ◌∙◌}
use Prim.Native.Nat.{ℕ, ◌+◌, ◌*◌, ◌/◌, ◌%◌, ◌≤◌, ◌<◌}
use native.Mathlib.Nat.{mod-lt}
use native.Mathlib.Omega.{arith}
use lib.Arith.{digits_div, digits_mod}
use lib.Dec.{lit<}
use lib.Pow.{pow_pos, split, shr-shr}
use lib.Bits.{bit_and, and_block, and_mask}
use Rattle.model.specs.Units.{digit_sum}
use Rattle.model.proofs.DigitLaws.{byte_sum, byte_sum_most, by_bytes}

-- ---- digits added side by side
-- the low digits of a number's bytes and the high ones, as a mask picks them, added
unfoldable nibbles : ℕ → ℕ → ℕ
nibbles y e = bit_and y e + bit_and (y / 16) e

-- a mask whose lowest byte is 0f: the low digit of the lowest byte is kept, and the rest of the mask meets the other bytes
low_byte_lem : (y e : ℕ) → bit_and y (e * 256 + 15) ≡ bit_and (y / 256) e * 256 + y % 16
low_byte_lem y e =
    ap (λ (n : ℕ). bit_and n (e * 256 + 15)) (sym (split y 8))
    ∙ and_block 8 (y / 256) e (y % 256) 15 (mod-lt y (pow_pos 8)) (lit< tt)
    ∙ ap (λ (n : ℕ). bit_and (y / 256) e * 256 + n) (and_mask (y % 256) 4 ∙ omega arith)

-- so the lowest byte has the sum of its digits
nibbles_step : (y e : ℕ) → nibbles y (e * 256 + 15) ≡ nibbles (y / 256) e * 256 + byte_sum y
unfolding nibbles byte_sum
nibbles_step y e =
    let turn : y / 16 / 256 ≡ y / 256 / 16 = shr-shr y 4 8 ∙ sym (shr-shr y 8 4) in
    omega (arith, low_byte_lem y e, rw turn at (low_byte_lem (y / 16) e))

nibbles_last : (y : ℕ) → nibbles y 15 ≡ byte_sum y
unfolding nibbles byte_sum
nibbles_last y = ap₂ (λ (m n : ℕ). m + n) (and_mask y 4) (and_mask (y / 16) 4)

four_bytes_lem : (k : ℕ)
    → nibbles k 0x0f0f_0f0f ≡ ((byte_sum (k / 16777216) * 256 + byte_sum (k / 65536)) * 256 + byte_sum (k / 256)) * 256 + byte_sum k
four_bytes_lem k =
    let two : k / 256 / 256 ≡ k / 65536 = shr-shr k 8 8 in
    let three : k / 65536 / 256 ≡ k / 16777216 = shr-shr k 16 8 in
    nibbles_step k 0x0f_0f0f
    ∙ ap (λ (n : ℕ). n * 256 + byte_sum k) (nibbles_step (k / 256) 0x0f0f
    ∙ rw two (ap (λ (n : ℕ). n * 256 + byte_sum (k / 256)) (nibbles_step (k / 65536) 0x0f
    ∙ rw three (ap (λ (n : ℕ). n * 256 + byte_sum (k / 65536)) (nibbles_last (k / 16777216))))))

-- ---- the bytes added two and two
-- four bytes of at most 30 are added in the lowest one, and nothing carries into it
fold : ℕ → ℕ
fold x = x + x / 256 + (x + x / 256) / 65536

first_sum_lem : (a b c d : ℕ) → ((d * 256 + c) * 256 + b) * 256 + a + ((d * 256 + c) * 256 + b) ≡ (c + d + d * 256) * 65536 + (a + b + (b + c) * 256)
first_sum_lem a b c d = omega arith

second_sum : (a b c d : ℕ) → (c + d + d * 256) * 65536 + (a + b + (b + c) * 256) + (c + d + d * 256) ≡ ((c + d + d * 256) * 256 + (b + c) + d) * 256 + (a + b + c + d)
second_sum a b c d = omega arith

low_most : (a b c : ℕ) → a ≤ 30 → b ≤ 30 → c ≤ 30 → a + b + (b + c) * 256 < 65536
low_most a b c ha hb hc = omega arith

sum_most : (a b c d : ℕ) → a ≤ 30 → b ≤ 30 → c ≤ 30 → d ≤ 30 → a + b + c + d < 256
sum_most a b c d ha hb hc hd = omega arith

fold_sum : (a b c d : ℕ) → a ≤ 30 → b ≤ 30 → c ≤ 30 → d ≤ 30 → fold (((d * 256 + c) * 256 + b) * 256 + a) % 256 ≡ a + b + c + d
unfolding fold
fold_sum a b c d ha hb hc hd =
    let x : ℕ = ((d * 256 + c) * 256 + b) * 256 + a in
    let small : a < 256 = omega (arith, ha) in
    let down : x / 256 ≡ (d * 256 + c) * 256 + b = digits_div ((d * 256 + c) * 256 + b) {m = 256} {r = a} small in
    let y : x + x / 256 ≡ (c + d + d * 256) * 65536 + (a + b + (b + c) * 256) = ap (λ (n : ℕ). x + n) down ∙ first_sum_lem a b c d in
    let up : (x + x / 256) / 65536 ≡ c + d + d * 256 =
    ap (λ (n : ℕ). n / 65536) y ∙ digits_div (c + d + d * 256) {m = 65536} {r = a + b + (b + c) * 256} (low_most a b c ha hb hc) in
    ap (λ (n : ℕ). n % 256) (ap₂ (λ (m n : ℕ). m + n) y up ∙ second_sum a b c d)
    ∙ digits_mod ((c + d + d * 256) * 256 + (b + c) + d) {m = 256} {r = a + b + c + d} (sum_most a b c d ha hb hc hd)

pub folded_sum : (k x : ℕ) → x ≡ bit_and k 0x0f0f_0f0f + bit_and (k / 16) 0x0f0f_0f0f → (x + x / 256 + (x + x / 256) / 65536) % 256 ≡ digit_sum k
unfolding fold nibbles
folded_sum k x e =
    ap (λ (n : ℕ). fold n % 256) (e ∙ four_bytes_lem k)
    ∙ fold_sum (byte_sum k) (byte_sum (k / 256)) (byte_sum (k / 65536)) (byte_sum (k / 16777216))
    (byte_sum_most k) (byte_sum_most (k / 256)) (byte_sum_most (k / 65536)) (byte_sum_most (k / 16777216))
    ∙ sym (by_bytes k)
