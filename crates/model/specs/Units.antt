-- Document 01, "Units, keys and ranks", with digit sums (document 02, request 2): where a key lies, and which unit is split. A data unit is linear
-- hashing's bucket, a check unit a parity bucket, a group a bucket group of four.
use Rattle.std.specs.Prelude.{ℕ, suc, ◌*◌, ◌-◌, ◌/◌, ◌%◌, ◌^◌, Bool, ◌||◌, eqb, ltb}
use Rattle.buffer.specs.Choice.{pick}
use Rattle.buffer.specs.Range.{sum}

-- 2^j, the largest power of two that is at most m, for m from 1 to 16
unfoldable pub power_below : ℕ → ℕ
power_below m = pick (ltb m 2) 1 (pick (ltb m 4) 2 (pick (ltb m 8) 4 (pick (ltb m 16) 8 16)))

-- n = M - 2^j, the split pointer: the unit that is split next
unfoldable pub split_pointer : ℕ → ℕ
split_pointer m = m - power_below m

-- the unit of a number by linear hashing: x mod 2^j, or x mod 2^(j+1) where the former is below n
unfoldable pub address : ℕ → ℕ → ℕ
address m x = pick (ltb (x % power_below m) (split_pointer m)) (x % (2 * power_below m)) (x % power_below m)

-- the sum of a key's eight hexadecimal digits
unfoldable pub digit_sum : ℕ → ℕ
digit_sum k = sum 8 (λ i. k / 16 ^ i % 16)

-- a key's unit: that of its digit sum
unfoldable pub unit_of : ℕ → ℕ → ℕ
unit_of m k = address m (digit_sum k)

-- unit M is made by splitting unit n: does a key of unit n leave it for unit M?
unfoldable pub moves : ℕ → ℕ → Bool
moves m k = eqb (unit_of (suc m) k) m

-- the groups of the unit m that is added or removed, and of the unit that it is split from
unfoldable pub touched : ℕ → ℕ → Bool
touched m g = eqb g (m / 4) || eqb g (split_pointer m / 4)

-- the group of which unit m is the first: it comes into place when unit m, behind the last, is added, and is left with no data unit when m is removed
unfoldable pub begins : ℕ → ℕ → Bool
begins m g = eqb (4 * g) m
