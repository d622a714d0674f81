-- The unit of a key as the code finds it: by its digit sum x and a 0 or 1, and in a store.
use Rattle.std.specs.Prelude.{ℕ, ◌+◌, ◌*◌, ◌-◌, ◌/◌, ◌%◌, ◌≤◌, ◌<◌, ◌≡◌, List}
use Rattle.std.proofs.Common.{ap, ◌∙◌, arith}
use Rattle.std.proofs.Math.Nat.{mod-lt}
use Rattle.std.proofs.Math.Arith.{mod-mul}
use Rattle.buffer.specs.Bytes.{byte}
use Rattle.model.specs.Units.{power_below, split_pointer, address, digit_sum, unit_of}
use Rattle.model.specs.UnitLaws.{power_least, power_most}
use Rattle.model.specs.Layout.{view}
use Rattle.model.specs.Reads.{home_in}
use Rattle.model.specs.StoreLaws.{units_of}
use Rattle.lookup.specs.Below.{TellsBelow, carry_tells, by_bit}

-- the remainder by p is not above that by 2p
pub first_le_second : (x p : ℕ) → 1 ≤ p → x % p ≤ x % (2 * p)
first_le_second x p pos = omega (arith, mod-mul x {m = 2} {c = p} (omega arith) pos)

-- linear hashing of a number x among m units: p is 2^j, n the split pointer
module _ (m p n x bit : ℕ) (power : p ≡ power_below m) (split : n ≡ split_pointer m) where
  -- request 7: the 0 or 1 from the subtraction is 1 exactly where the first remainder is below n
  pub bit_exactly : 1 ≤ m → m ≤ 255 → bit ≡ (n + 255 - x % p) / 256 → TellsBelow bit (x % p) n
  unfolding split_pointer
  bit_exactly some most e =
      let first : x % p < p = mod-lt x (rw power (power_least m)) in
      carry_tells bit (x % p) n (omega (arith, power_most m some)) (omega arith) e

  -- multiplied in, it chooses the unit; of a key x is the digit sum
  pub unit_by_bit : TellsBelow bit (x % p) n → (k : ℕ) → x ≡ digit_sum k → x % p + bit * (x % (2 * p) - x % p) ≡ unit_of m k
  unfolding unit_of address
  unit_by_bit tells k digits =
      let second : x % p + (x % (2 * p) - x % p) ≡ x % (2 * p) = omega (arith, first_le_second x p (rw power (power_least m))) in
      by_bit bit (x % p) n (x % p) (x % (2 * p) - x % p) tells ∙ rw (second, power, split, digits)

pub home_found : (s : List ℕ) (k : ℕ) {u : ℕ} → u ≡ unit_of (byte s 6) k → u ≡ home_in (view s) k
unfolding home_in
home_found s k e = e ∙ ap (λ m. unit_of m k) (units_of s)
