-- Keys compared two at a time, as numbers read low byte first: they are the same where the numbers have no difference.
use mathlib.Core.Path.{◌≡◌, ap₂, ◌∙◌}
use mathlib.Core.Bool.{◌&&◌}
use mathlib.Core.List.{List}
use Prim.Native.Nat.{ℕ, ◌+◌, ◌*◌, ◌<◌}
use native.Mathlib.Omega.{arith}
use lib.Bits.{bit_xor}
use lib.Dec.{eqb}
use borrow.Author.Tests.{eqb-true, eq-eqb}
use Rattle.buffer.specs.Bytes.{byte}
use Rattle.buffer.specs.TestLaws.{same_test, and-true, and_first, and_second}
use Rattle.buffer.specs.ByteOrder.{le32}
use Rattle.buffer.specs.ByteOrderLaws.{le_be_same}
use Rattle.soundness.specs.Keys.{same_pair}
use Rattle.soundness.proofs.Joined.{xor_same}

-- two numbers of 32 bits are told by the number of 64 bits that they make
halves : (a b c d : ℕ) → a < 4294967296 → c < 4294967296 → eqb (a + b * 4294967296) (c + d * 4294967296) ≡ (eqb a c && eqb b d)
halves a b c d ha hc =
    same_test (eqb (a + b * 4294967296) (c + d * 4294967296)) (eqb a c && eqb b d)
    (λ h.
    let e : a + b * 4294967296 ≡ c + d * 4294967296 = eqb-true _ _ h in
    and-true (eq-eqb a c (omega arith)) (eq-eqb b d (omega arith)))
    (λ h.
    let first : a ≡ c = eqb-true a c (and_first _ _ h) in
    let second : b ≡ d = eqb-true b d (and_second (eqb a c) _ h) in
    let both : a + b * 4294967296 ≡ c + d * 4294967296 = omega arith in
    eq-eqb _ _ both)

module _ (s : List ℕ) (bound : (i : ℕ) → byte s i < 256) where
  le_lt : (x : ℕ) → le32 s x < 4294967296
  unfolding le32
  le_lt x = omega (arith, bound x, bound (x + 1), bound (x + 2), bound (x + 3))

  pub same_words : (x y : ℕ) {a b : ℕ} → a ≡ le32 s x + le32 s (x + 4) * 4294967296 → b ≡ le32 s y + le32 s (y + 4) * 4294967296
      → eqb (bit_xor a b) 0 ≡ same_pair s x y
  unfolding same_pair
  same_words x y {a} {b} ea eb =
      xor_same a b ∙ ap₂ eqb ea eb
      ∙ halves (le32 s x) (le32 s (x + 4)) (le32 s y) (le32 s (y + 4)) (le_lt x) (le_lt y)
      ∙ ap₂ (λ a b. a && b) (le_be_same s bound x y) (le_be_same s bound (x + 4) (y + 4))
