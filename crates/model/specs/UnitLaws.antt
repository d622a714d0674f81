-- Laws of linear hashing: a number's unit is one of the units in place, so a key's is, and so is the unit that is split.
use Rattle.std.specs.Prelude.{ℕ, ◌*◌, ◌-◌, ◌/◌, ◌%◌, ◌≤◌, ◌<◌, ltb}
use Rattle.std.proofs.Common.{arith, mod-lt, mul-le-mul_right, ltb-true, ltb-false}
use Rattle.std.proofs.Math.Arith.{mod-mul}
use Rattle.buffer.specs.ChoiceLaws.{by-pick}
use Rattle.model.specs.Units.{power_below, split_pointer, address, unit_of}

-- the power of two is at least 1 and at most the number of units
pub power_least : (m : ℕ) → 1 ≤ power_below m
unfolding power_below
power_least m =
    by-pick (λ p. 1 ≤ p) (ltb m 2) 1 _ (λ e. omega arith) (λ e.
    by-pick (λ p. 1 ≤ p) (ltb m 4) 2 _ (λ e. omega arith) (λ e.
    by-pick (λ p. 1 ≤ p) (ltb m 8) 4 _ (λ e. omega arith) (λ e.
    by-pick (λ p. 1 ≤ p) (ltb m 16) 8 16 (λ e. omega arith) (λ e. omega arith))))

pub power_most : (m : ℕ) → 1 ≤ m → power_below m ≤ m
unfolding power_below
power_most m h =
    by-pick (λ p. p ≤ m) (ltb m 2) 1 _ (λ e. h) (λ a.
    by-pick (λ p. p ≤ m) (ltb m 4) 2 _ (λ e. omega (arith, ltb-false)) (λ b.
    by-pick (λ p. p ≤ m) (ltb m 8) 4 _ (λ e. omega (arith, ltb-false)) (λ c.
    by-pick (λ p. p ≤ m) (ltb m 16) 8 16 (λ e. omega (arith, ltb-false)) (λ e. omega (arith, ltb-false)))))

-- the unit that is split is in place
pub split_below : (m : ℕ) → 1 ≤ m → split_pointer m < m
unfolding split_pointer
split_below m h = omega (arith, power_least m, power_most m h)

-- the unit of a number is in place
address_below : (m x : ℕ) → 1 ≤ m → address m x < m
unfolding address split_pointer
address_below m x h =
    let p : ℕ = power_below m in
    let pos : 0 < p = power_least m in
    by-pick
    (λ u. u < m)
    (ltb (x % p) (m - p))
    (x % (2 * p))
    (x % p)
    (λ e.
    let a : x / p % 2 ≤ 1 = omega arith in
    let c : x / p % 2 * p ≤ 1 * p = mul-le-mul_right p a in
    omega (arith, mod-mul x {m = 2} {c = p} (omega arith) pos, ltb-true (x % p) (m - p) e))
    (λ e. omega (arith, mod-lt x pos, power_most m h))

-- and so is a key's
pub unit_below : (m k : ℕ) → 1 ≤ m → unit_of m k < m
unfolding unit_of
unit_below m k h = address_below m _ h
