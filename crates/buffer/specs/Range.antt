-- Tests, counts, first places and sums over the numbers 0 to n - 1.
use Rattle.std.specs.Prelude.{ℕ, zero, suc, ◌+◌, Bool, true, ◌&&◌}
use Rattle.buffer.specs.Choice.{pick}

-- the test holds at each of 0 to n - 1
unfoldable pub all : ℕ → (ℕ → Bool) → Bool
all zero p = true
all (suc n) p = all n p && p n

-- at how many of 0 to n - 1 the test holds
unfoldable pub count : ℕ → (ℕ → Bool) → ℕ
count zero p = 0
count (suc n) p = count n p + pick (p n) 1 0

-- the first of 0 to n - 1 at which the test holds, or n where there is none
unfoldable pub first : ℕ → (ℕ → Bool) → ℕ
first zero p = 0
first (suc n) p = pick (p 0) 0 (suc (first n (λ (k : ℕ). p (suc k))))

-- the sum of f 0 to f (n - 1)
unfoldable pub sum : ℕ → (ℕ → ℕ) → ℕ
sum zero f = 0
sum (suc n) f = sum n f + f n
