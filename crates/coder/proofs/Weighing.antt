-- The digits of the weights, highest first. A reader wants `Weighing`, what holds at each turn: the sum is that of the weights without their lowest b
-- digits; with `weighing_start`, `weighing_turn` and `weighing_end`.
use mathlib.Core.Path.{◌≡◌, sym, ap, ◌∙◌}
use mathlib.Core.List.{List}
use Prim.Native.Nat.{ℕ, ◌+◌, ◌*◌, ◌/◌, ◌%◌, ◌^◌, ◌≤◌, ◌<◌}
use native.Mathlib.Nat.{lt_of_le_of_lt, div-le_self}
use native.Mathlib.Omega.{arith}
use lib.Bits.{bit_xor}
use lib.Pow.{shr-shr}
use lib.ListN.{length, get_or}
use Rattle.algebra.specs.XorSums.{total, total_ext}
use Rattle.buffer.specs.Bytes.{byte, zeros}
use Rattle.buffer.specs.ByteLaws.{length_zeros, byte_zeros}
use Rattle.buffer.specs.Loops.{entries}
use Rattle.buffer.specs.RangeLaws.{length_entries, get_or_entries, entries_ext, entries_of}
use Rattle.field256.specs.Gf256.{product}
use Rattle.coder.specs.Segment.{member_byte}
use Rattle.coder.specs.Horner.{horner_step, horner_start}
use Rattle.coder.specs.Sums.{digit_term, digit_sum, weighted_sum}

pub record Weighing (len : ℕ) (s ps ws : List ℕ) (m : ℕ) (acc : List ℕ) (b : ℕ) : Type 0 where
  pub within : b ≤ 8
  pub weighed : acc ≡ entries len (weighted_sum len s ps ws b m)

pub weighing_long : {len : ℕ} {s ps ws : List ℕ} {m : ℕ} {acc : List ℕ} {b : ℕ} → Weighing len s ps ws m acc b → length acc ≡ len
weighing_long {len} g = ap length g.weighed ∙ length_entries len _

module _ (len : ℕ) (s ps ws : List ℕ) (m : ℕ) (low : (k : ℕ) → k < m → get_or ws k 0 < 256) (bytes : (k : ℕ) → byte s k < 256) where
  pub weighing_start : (acc : List ℕ) → acc ≡ zeros len → Weighing len s ps ws m acc 8
  unfolding weighted_sum
  weighing_start acc e = record {
    within = omega arith;
    weighed = entries_of acc len (weighted_sum len s ps ws 8 m) (ap length e ∙ length_zeros len)
        (λ j h. ap (λ (y : List ℕ). byte y j) e ∙ byte_zeros len j ∙ sym (horner_start m (λ k. get_or ws k 0) (λ k. member_byte len s j (get_or ps k 0)) low));
  }

  step : (b j : ℕ) → bit_xor (product 2 (weighted_sum len s ps ws (b + 1) m j)) (digit_sum len s ps ws b m j) ≡ weighted_sum len s ps ws b m j
  unfolding weighted_sum digit_sum digit_term
  step b j =
      let y : ℕ → ℕ = λ k. member_byte len s j (get_or ps k 0) in
      ap (λ (x : ℕ). bit_xor (product 2 x) (total m (λ k. get_or ws k 0 / 2 ^ b % 2 * y k)))
      (total_ext m (λ k. product (get_or ws k 0 / 2 ^ (b + 1)) (y k)) (λ k. product (get_or ws k 0 / 2 ^ b / 2) (y k))
      (λ k l. ap (λ (x : ℕ). product x (y k)) (sym (shr-shr (get_or ws k 0) b 1))))
      ∙ horner_step m (λ k. get_or ws k 0 / 2 ^ b) y (λ k l. lt_of_le_of_lt (div-le_self (get_or ws k 0) (2 ^ b)) (low k l))
      (λ k l. unfold member_byte in bytes (len * get_or ps k 0 + j))

  pub weighing_turn : (acc acc' : List ℕ) (b c : ℕ) → Weighing len s ps ws m acc b → b ≡ c + 1
      → acc' ≡ entries len (λ j. bit_xor (product 2 (byte acc j)) (digit_sum len s ps ws c m j)) → Weighing len s ps ws m acc' c
  weighing_turn acc acc' b c g e q = record {
    within = omega (arith, g.within);
    weighed = q ∙ entries_ext len (λ j. bit_xor (product 2 (byte acc j)) (digit_sum len s ps ws c m j)) (weighted_sum len s ps ws c m)
        (λ j l. ap (λ (x : ℕ). bit_xor (product 2 x) (digit_sum len s ps ws c m j)) (before j l) ∙ step c j);
  }
    where
      before : (j : ℕ) → j < len → byte acc j ≡ weighted_sum len s ps ws (c + 1) m j
      before j l = ap (λ (y : List ℕ). byte y j) g.weighed ∙ get_or_entries len _ j 0 l ∙ ap (λ (n : ℕ). weighted_sum len s ps ws n m j) e

pub weighing_end : {len : ℕ} {s ps ws : List ℕ} {m : ℕ} {acc : List ℕ} {b : ℕ} → Weighing len s ps ws m acc b → b ≤ 0
    → acc ≡ entries len (weighted_sum len s ps ws 0 m)
weighing_end {len} {s} {ps} {ws} {m} {acc} {b} g h =
    let none : b ≡ 0 = omega arith in
    g.weighed ∙ ap (λ (c : ℕ). entries len (weighted_sum len s ps ws c m)) none
