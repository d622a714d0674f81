-- The bytes of the parities at the three check places, by rows of products: one sum gives them all, the bodies exchanged (`parity_place`).
use Prim.Native.Nat.{ℕ, zero, suc, ◌*◌, ◌/◌, ◌%◌, ◌^◌, ◌≤◌, ◌<◌}
use mathlib.Core.Path.{◌≡◌, refl, sym, ap, ap₂, ◌∙◌}
use mathlib.Core.List.{List}
use native.Mathlib.Omega.{arith}
use lib.Bits.{bit_xor, xor_comm, xor_shr, xor_mod}
use lib.ListN.{length}
use Rattle.buffer.specs.Loops.{entries}
use Rattle.buffer.specs.RangeLaws.{get_or_entries, entries_of}
use Rattle.buffer.specs.Bytes.{byte}
use Rattle.buffer.specs.ByteOrder.{low_byte}
use Rattle.buffer.specs.LoopWrites.{Filling, filling_end}
use Rattle.algebra.specs.Xor.{xor_assoc}
use Rattle.code.specs.Scaling.{scale}
use Rattle.code.specs.ScalingLaws.{scale_add, add_scale, scale_one}
use Rattle.code.specs.Matrix.{matrix, entry}
use Rattle.group.specs.Widths.{field_bytes}
use Rattle.group.specs.Body.{scale_body}
use Rattle.group.specs.BodyLaws.{length_scale, byte_scale}
use Rattle.group.specs.Parity.{coefficient, body_at, parity}
use Rattle.group.proofs.ParityLaws.{byte_sum4, length_parity}
use Rattle.group.proofs.ExchangeLaws.{exchanged, parity_exchanged}
use Rattle.group.specs.Four.{four_bodies}
use Rattle.group.specs.ScaledRow.{scaled_row}
use Rattle.group.specs.FirstSums.{first_sum}

-- ---- four bytes, one of each place
-- their sum
abbrev pub total : (ℕ → ℕ) → ℕ
total x = bit_xor (bit_xor (bit_xor (x 0) (x 1)) (x 2)) (x 3)

-- their sum, each times its coefficient in check place 0
abbrev pub mixture : (ℕ → ℕ) → ℕ
mixture x = first_sum (x 0) (x 1) (x 2) (x 3)

total_ext : (x y : ℕ → ℕ) → ((p : ℕ) → p < 4 → x p ≡ y p) → total x ≡ total y
total_ext x y h = rw (h 0 (omega arith), h 1 (omega arith), h 2 (omega arith), h 3 (omega arith))

last_two : (a b c : ℕ) → bit_xor (bit_xor a b) c ≡ bit_xor (bit_xor a c) b
last_two a b c = xor_assoc a b c ∙ ap (bit_xor a) (xor_comm b c) ∙ sym (xor_assoc a c b)

-- ---- rows of products
-- the coefficients of check place 0 are 8, F, 1 and 7, and F is 8 + 7
pub mixed : (a b c d : ℕ) → c < 256 → bit_xor (bit_xor (scale 8 (bit_xor a b)) (scale 7 (bit_xor b d))) c ≡ first_sum a b c d
unfolding coefficient entry matrix
mixed a b c d hc =
    ap (λ x. bit_xor x c) (
    ap₂ bit_xor (scale_add 8 a b (omega arith)) (scale_add 7 b d (omega arith))
    ∙ sym (xor_assoc (bit_xor (scale 8 a) (scale 8 b)) (scale 7 b) (scale 7 d))
    ∙ ap (λ x. bit_xor x (scale 7 d))
    (xor_assoc (scale 8 a) (scale 8 b) (scale 7 b) ∙ ap (bit_xor (scale 8 a)) (sym (add_scale 8 7 b (omega arith) (omega arith)))))
    ∙ last_two (bit_xor (scale 8 a) (scale 15 b)) (scale 7 d) c
    ∙ ap (λ x. bit_xor (bit_xor (bit_xor (scale 8 a) (scale 15 b)) x) (scale 7 d)) (sym (scale_one c hc))

-- the same of a byte of four words
sum_byte : (a b n : ℕ) → low_byte (bit_xor a b) n ≡ bit_xor (low_byte a n) (low_byte b n)
unfolding low_byte
sum_byte a b n = ap (λ x. x % 256) (xor_shr a b (8 * n)) ∙ xor_mod (a / 2 ^ (8 * n)) (b / 2 ^ (8 * n)) 8

low_byte_lt : (x n : ℕ) → low_byte x n < 256
unfolding low_byte
low_byte_lt x n = omega arith

pub mixed_byte : (a b c d n : ℕ)
    → bit_xor (bit_xor (scale 8 (low_byte (bit_xor a b) n)) (scale 7 (low_byte (bit_xor b d) n))) (low_byte c n)
    ≡ first_sum (low_byte a n) (low_byte b n) (low_byte c n) (low_byte d n)
mixed_byte a b c d n = rw (sum_byte a b n, sum_byte b d n) (mixed (low_byte a n) (low_byte b n) (low_byte c n) (low_byte d n) (low_byte_lt c n))

-- a row's entry
pub row_byte : (w x : ℕ) → x < 256 → byte (scaled_row w) x ≡ scale w x
unfolding scaled_row
row_byte w x h = get_or_entries 256 (scale w) x 0 h

-- ---- the parities of four bodies
-- a byte of the parity at check place 0
parity_byte : (f : ℕ → List ℕ) → ((p : ℕ) → length (f p) ≡ field_bytes) → (i : ℕ) → i < field_bytes → byte (parity 0 f) i ≡ mixture (λ p. byte (f p) i)
unfolding parity body_at coefficient
parity_byte f long i l =
    byte_sum4 field_bytes (λ p. scale_body (coefficient p 0) (f p)) (λ p k. length_scale (coefficient p 0) (f p) ∙ long p) i
    ∙ total_ext
    (λ p. byte (scale_body (coefficient p 0) (f p)) i)
    (λ p. scale (coefficient p 0) (byte (f p) i))
    (λ p k. byte_scale (coefficient p 0) (f p) i (omega (arith, long p)))

module _ (a b c d : List ℕ) (la : length a ≡ field_bytes) (lb : length b ≡ field_bytes) (lc : length c ≡ field_bytes) (ld : length d ≡ field_bytes) where
  four_long : (p : ℕ) → length (four_bodies a b c d p) ≡ field_bytes
  unfolding four_bodies
  four_long zero = la
  four_long (suc zero) = lb
  four_long (suc (suc zero)) = lc
  four_long (suc (suc (suc p))) = ld

  -- a byte of the parity at check place j: the sum by the coefficients of check place 0, the bodies exchanged
  pub parity_place : (i : ℕ) → i < field_bytes → (j v : ℕ) → j < 3 → v ≡ mixture (λ p. byte (four_bodies a b c d (exchanged j p)) i)
      → v ≡ byte (parity j (four_bodies a b c d)) i
  parity_place i l j v k e =
      e
      ∙ sym (parity_byte (λ p. four_bodies a b c d (exchanged j p)) (λ p. four_long (exchanged j p)) i l)
      ∙ ap (λ x. byte x i) (sym (parity_exchanged j k (four_bodies a b c d)))

  -- all its bytes
  pub parity_entries : (j : ℕ) → entries field_bytes (byte (parity j (four_bodies a b c d))) ≡ parity j (four_bodies a b c d)
  parity_entries j = sym (entries_of (parity j (four_bodies a b c d)) field_bytes (byte (parity j (four_bodies a b c d)))
      (length_parity field_bytes j (four_bodies a b c d) (λ p _. four_long p)) (λ k l. refl))

  pub parity_filled : (j : ℕ) {x₀ x : List ℕ} {i : ℕ} → Filling (byte (parity j (four_bodies a b c d))) x₀ x i → length x₀ ≡ field_bytes → field_bytes ≤ i
      → x ≡ parity j (four_bodies a b c d)
  parity_filled j {x₀} {x} {i} g e h =
      filling_end g (omega (arith, g.long))
      ∙ ap (λ n. entries n (byte (parity j (four_bodies a b c d)))) e
      ∙ parity_entries j
