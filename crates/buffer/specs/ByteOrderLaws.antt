-- Turned round, a little-endian number is the big-endian one of the same bytes, and the other way: so which numbers are 0 and which are the same does
-- not depend on the order. Its bytes are those that it was read from (`byte_le`).
use Rattle.std.specs.Prelude.{ℕ, ◌+◌, ◌*◌, ◌/◌, ◌%◌, ◌<◌, ◌≡◌, List, eqb}
use Rattle.std.proofs.Math.Path.{refl}
use Rattle.std.proofs.Common.{sym, ap, ◌∙◌, add-zero}
use native.Mathlib.Omega.{arith}
use borrow.Author.Tests.{eqb-true, eq-eqb}
use Rattle.buffer.specs.Bytes.{byte, be32}
use Rattle.buffer.specs.ByteOrder.{le32, turn, low_byte}
use Rattle.buffer.specs.ByteLaws.{low_byte_lem, above_byte}
use Rattle.buffer.specs.RangeLaws.{below-four}
use Rattle.buffer.specs.TestLaws.{same_test}

-- what stands above two bytes of a number, and above three
above16 : (x r q : ℕ) → r < 65536 → x ≡ r + q * 65536 → x / 65536 ≡ q
above16 x r q h e = omega arith

above24 : (x r q : ℕ) → r < 16777216 → x ≡ r + q * 16777216 → x / 16777216 ≡ q
above24 x r q h e = omega arith

joined : (p q r s a b c d : ℕ) → p ≡ a → q ≡ b → r ≡ c → s ≡ d → p * 16777216 + q * 65536 + r * 256 + s ≡ a * 16777216 + b * 65536 + c * 256 + d
joined p q r s a b c d ea eb ec ed = omega arith

-- a number made of four bytes, lowest first: these come out of it again
module _ (a b c d x : ℕ) (ha : a < 256) (hb : b < 256) (hc : c < 256) (hd : d < 256) (e : x ≡ a + b * 256 + c * 65536 + d * 16777216) where
  parts : (x % 256 ≡ a) × (x / 256 % 256 ≡ b) × (x / 65536 % 256 ≡ c) × (x / 16777216 ≡ d)
  parts = (
    low_byte_lem x a (b + c * 256 + d * 65536) ha (omega (arith, e)),
    low_byte_lem (x / 256) b (c + d * 256) hb (above_byte x a (b + (c + d * 256) * 256) ha (omega (arith, e))),
    low_byte_lem (x / 65536) c d hc (above16 x (a + b * 256) (c + d * 256) (omega (arith, ha, hb)) (omega (arith, e))),
    above24 x (a + b * 256 + c * 65536) d (omega (arith, ha, hb, hc)) (omega (arith, e)),
  )

  low_bytes : (low_byte x 0 ≡ a) × (low_byte x 1 ≡ b) × (low_byte x 2 ≡ c) × (low_byte x 3 ≡ d)
  unfolding low_byte
  low_bytes = (omega (arith, parts.0), parts.1, parts.2, omega (arith, parts.3, hd))

  pub turn_low : turn x ≡ a * 16777216 + b * 65536 + c * 256 + d
  turn_low = joined (x % 256) (x / 256 % 256) (x / 65536 % 256) (x / 16777216) a b c d parts.0 parts.1 parts.2 parts.3

pub byte_le : (s : List ℕ) (x : ℕ) → ((k : ℕ) → k < 4 → byte s (x + k) < 256) → (k : ℕ) → k < 4 → low_byte (le32 s x) k ≡ byte s (x + k)
unfolding le32
byte_le s x h =
    let front : byte s (x + 0) ≡ byte s x = ap (λ i. byte s i) (add-zero x) in
    let e = low_bytes _ _ _ _ (le32 s x) (omega (arith, front, h 0 (omega arith))) (h 1 (omega arith)) (h 2 (omega arith)) (h 3 (omega arith)) refl in
    below-four (λ k. low_byte (le32 s x) k ≡ byte s (x + k)) (e.0 ∙ sym front) e.1 e.2 e.3

module _ (s : List ℕ) (bound : (i : ℕ) → byte s i < 256) where
  pub turn_le : (x : ℕ) → turn (le32 s x) ≡ be32 s x
  unfolding le32 be32
  turn_le x = turn_low _ _ _ _ (le32 s x) (bound x) (bound (x + 1)) (bound (x + 2)) (bound (x + 3)) refl

  turn_be : (x : ℕ) → turn (be32 s x) ≡ le32 s x
  unfolding le32 be32
  turn_be x =
      let low : be32 s x ≡ byte s (x + 3) + byte s (x + 2) * 256 + byte s (x + 1) * 65536 + byte s x * 16777216 = omega arith in
      let high : byte s (x + 3) * 16777216 + byte s (x + 2) * 65536 + byte s (x + 1) * 256 + byte s x ≡ le32 s x = omega arith in
      turn_low _ _ _ _ (be32 s x) (bound (x + 3)) (bound (x + 2)) (bound (x + 1)) (bound x) low ∙ high

  pub le_be_same : (x y : ℕ) → eqb (le32 s x) (le32 s y) ≡ eqb (be32 s x) (be32 s y)
  le_be_same x y =
      same_test (eqb (le32 s x) (le32 s y)) (eqb (be32 s x) (be32 s y))
      (λ e. eq-eqb _ _ (sym (turn_le x) ∙ ap turn (eqb-true _ _ e) ∙ turn_le y))
      (λ e. eq-eqb _ _ (sym (turn_be x) ∙ ap turn (eqb-true _ _ e) ∙ turn_be y))

  pub le_be_zero : (x : ℕ) → eqb (le32 s x) 0 ≡ eqb (be32 s x) 0
  unfolding le32 be32
  le_be_zero x =
      same_test (eqb (le32 s x) 0) (eqb (be32 s x) 0)
      (λ e. let z : le32 s x ≡ 0 = eqb-true _ _ e in eq-eqb (be32 s x) 0 (omega arith))
      (λ e. let z : be32 s x ≡ 0 = eqb-true _ _ e in eq-eqb (le32 s x) 0 (omega arith))
