-- Document 02, request 7: a choice without a branch, by a 0 or 1 from a subtraction that tells whether one number is below another.
use Rattle.std.specs.Prelude.{ℕ, ◌+◌, ◌*◌, ◌-◌, ◌/◌, ◌≤◌, ◌<◌, ◌≡◌, ltb}
use Rattle.std.proofs.Common.{arith, mul-le-mul_right, ltb-true, ltb-false}
use Rattle.buffer.specs.Choice.{pick}
use Rattle.buffer.specs.ChoiceLaws.{by-pick}

-- a 0 or 1 that is 1 exactly where x is below n
pub record TellsBelow (bit x n : ℕ) : Type 0 where
  pub below : bit ≡ 1 → x < n
  pub one : x < n → bit ≡ 1
  pub zero : n ≤ x → bit ≡ 0

-- n + 255 - x is at least 256 exactly where x is below n, and always below 512
pub carry_tells : (bit x n : ℕ) → x ≤ 255 → n ≤ 256 → bit ≡ (n + 255 - x) / 256 → TellsBelow bit x n
carry_tells bit x n hx hn e = record { below = λ h. omega arith; one = λ h. omega arith; zero = λ h. omega arith }

-- d multiplied in: it is added where x is below n, and else not
pub by_bit : (bit x n a d : ℕ) → TellsBelow bit x n → a + bit * d ≡ pick (ltb x n) (a + d) a
by_bit bit x n a d tells =
    by-pick (λ z. a + bit * d ≡ z) (ltb x n) (a + d) a
    (λ e. rw (tells.one (ltb-true x n e)) (omega arith))
    (λ e. rw (tells.zero (ltb-false x n e)) (omega arith))

-- so at most d is added, whatever the 0 or 1 tells
pub bit_mul_le : {bit d : ℕ} → bit ≤ 1 → bit * d ≤ d
bit_mul_le {bit} {d} h = omega (arith, mul-le-mul_right d h)

pub add_bit_mul_le : (a d : ℕ) {bit : ℕ} → bit ≤ 1 → a + bit * d ≤ a + d
add_bit_mul_le a d h = omega (arith, mul-le-mul_right d h)
