-- Linear hashing's rule by a mask: whether a key belongs to unit u of m is told by low bits of its digit sum alone, and so by those of a number that has
-- the sum as its lowest byte.
use mathlib.Core.Path.{◌≡◌, refl, sym, ap, ◌∙◌}
use mathlib.Core.Bool.{Bool, false}
use Prim.Native.Nat.{ℕ, suc, ◌+◌, ◌*◌, ◌-◌, ◌/◌, ◌%◌, ◌^◌, ◌≤◌, ◌<◌}
use native.Mathlib.Omega.{arith}
use native.Mathlib.Nat.{mod-lt, mod-mod, mod-eq_of_lt, lt_of_le_of_lt, pow-succ', one-le-pow}
use lib.Arith.{mod-mul, digits_mod}
use lib.Bits.{bit_and, and_mask, and_mod, and_le_r}
use lib.Dec.{eqb, ltb}
use borrow.Author.Tests.{eqb-true, eqb-false, ne_eqb}
use Rattle.buffer.specs.Choice.{pick}
use Rattle.buffer.specs.ChoiceLaws.{by-test, by-pick, pick-map}
use Rattle.model.specs.Units.{power_below, split_pointer, address, digit_sum, unit_of}
use Rattle.model.specs.UnitLaws.{power_least, power_most}
use Rattle.lookup.specs.Below.{TellsBelow, by_bit}
use Rattle.soundness.specs.Keys.{mask_of}

-- what holds of every power of two holds of 2^j
by_power : (Q : ℕ → Type 0) (m : ℕ) → ((j : ℕ) → Q (2 ^ j)) → Q (power_below m)
unfolding power_below
by_power Q m q =
    by-pick Q (ltb m 2) 1 _ (λ _. q 0) (λ _. by-pick Q (ltb m 4) 2 _ (λ _. q 1) (λ _. by-pick Q (ltb m 8) 4 _ (λ _. q 2) (λ _.
    by-pick Q (ltb m 16) 8 16 (λ _. q 3) (λ _. q 4))))

-- of the two remainders of a number k it is enough to test the one that linear hashing takes for the number u: it is u exactly where k's own is
module _ (n u k p : ℕ) (pos : 0 < p) where
  taken : Bool → ℕ
  taken t = pick t (k % (2 * p)) (k % p)

  -- both remainders of k leave the first one when divided by p again: where u leaves another, it is neither of them
  neither : (t : Bool) → (k % p ≡ u % p → ⊥) → eqb (taken t) u ≡ false
  unfolding taken
  neither t d =
      let second : k % (2 * p) % p ≡ k % p =
      ap (λ (z : ℕ). z % p) (mod-mul k {m = 2} {c = p} (omega arith) pos) ∙ digits_mod (k / p % 2) (mod-lt k pos) in
      ne_eqb (pick t (k % (2 * p)) (k % p)) u (λ e. d (sym (by-pick (λ z. z % p ≡ k % p) t _ _ (λ _. second) (λ _. mod-mod k p)) ∙ ap (λ (z : ℕ). z % p) e))

  by_own_test : eqb (taken (ltb (u % p) n)) u ≡ eqb (taken (ltb (k % p) n)) u
  by_own_test =
      by-test (λ _. eqb (taken (ltb (u % p) n)) u ≡ eqb (taken (ltb (k % p) n)) u) (eqb (k % p) (u % p))
      (λ e. ap (λ (x : ℕ). eqb (taken (ltb x n)) u) (sym (eqb-true (k % p) (u % p) e)))
      (λ e. let d = eqb-false (k % p) (u % p) e in neither (ltb (u % p) n) d ∙ sym (neither (ltb (k % p) n) d))

abbrev Tells : ℕ → ℕ → ℕ → ℕ → Type 0
Tells n u k p = eqb (bit_and k (pick (ltb (u % p) n) (2 * p - 1) (p - 1))) u ≡ eqb (pick (ltb (k % p) n) (k % (2 * p)) (k % p)) u

-- the masks of a power of two leave the remainders
tells : (n u k j : ℕ) → Tells n u k (2 ^ j)
unfolding taken
tells n u k j =
    let p : ℕ = 2 ^ j in
    let twice : bit_and k (2 * p - 1) ≡ k % (2 * p) = rw (pow-succ' 2 j) at (and_mask k (suc j)) in
    ap (λ z. eqb z u) (pick-map (bit_and k) (ltb (u % p) n) (2 * p - 1) (p - 1) ∙ rw (and_mask k j, twice) refl)
    ∙ by_own_test n u k p (one-le-pow j 2 (omega arith))

mask_tells : (m u k : ℕ) → eqb (bit_and (digit_sum k) (mask_of m u)) u ≡ eqb (unit_of m k) u
unfolding mask_of unit_of address
mask_tells m u k = by_power (Tells (split_pointer m) u (digit_sum k)) m (tells (split_pointer m) u (digit_sum k))

-- the mask by a 0 or 1 that tells whether the unit's first remainder is below n
pub mask_by_bit : (m u x p n bit : ℕ) → p ≡ power_below m → n ≡ split_pointer m → x ≡ u → TellsBelow bit (x % p) n → p - 1 + bit * p ≡ mask_of m u
unfolding mask_of
mask_by_bit m u x p n bit power split unit tells =
    let pos : 1 ≤ p = rw power (power_least m) in
    let twice : p - 1 + p ≡ 2 * p - 1 = omega arith in
    by_bit bit (x % p) n (p - 1) p tells ∙ rw (twice, power, split, unit)

pub mask_small : (m u : ℕ) → 1 ≤ m → m ≤ 16 → mask_of m u < 256
unfolding mask_of
mask_small m u some most =
    let few : power_below m ≤ m = power_most m some in
    by-pick (λ w. w < 256) (ltb (u % power_below m) (split_pointer m)) (2 * power_below m - 1) (power_below m - 1) (λ _. omega arith) (λ _. omega arith)

-- a mask of one byte sees the lowest byte alone
low_bits : (q w : ℕ) → w < 256 → bit_and q w ≡ bit_and (q % 256) w
low_bits q w h =
    sym (mod-eq_of_lt (lt_of_le_of_lt (and_le_r q w) h)) ∙ and_mod q w 8 ∙ ap (λ (v : ℕ). bit_and (q % 256) v) (mod-eq_of_lt h)

pub kept_bits : (q w k : ℕ) → w < 256 → q % 256 ≡ digit_sum k → bit_and q w ≡ bit_and (digit_sum k) w
kept_bits q w k h e = low_bits q w h ∙ ap (λ (v : ℕ). bit_and v w) e

-- so a test by the mask is one of the unit
pub own_test : (m u : ℕ) {mask unit key k : ℕ} {t : Bool} → mask ≡ mask_of m u → unit ≡ u → key ≡ k → t ≡ eqb (bit_and (digit_sum key) mask) unit
    → t ≡ eqb (unit_of m k) u
own_test m u {k = k} masks is same e = e ∙ rw (masks, is, same) (mask_tells m u k)
