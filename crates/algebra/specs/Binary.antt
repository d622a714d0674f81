-- Polynomials over GF(2) as numbers: the coefficient of t^i is the binary digit i. Sums are `bit_xor`; products are taken modulo a polynomial m of
-- degree w, for any w and m. A reader wants `product_in w m a b`.
use Rattle.std.specs.Prelude.{ℕ, zero, suc, ◌+◌, ◌*◌, ◌/◌, ◌%◌, ◌^◌}
use Rattle.std.specs.Int.Bits.{bit_xor}

-- the product of the polynomials a and b, b of degree below n
unfoldable pub times : ℕ → ℕ → ℕ → ℕ
times zero a b = 0
times (suc n) a b = bit_xor (a * (b % 2)) (times n (a * 2) (b / 2))

-- the remainder of the polynomial x, of degree below w + n, by the polynomial m, of degree w
unfoldable pub remainder : ℕ → ℕ → ℕ → ℕ → ℕ
remainder w m zero x = x
remainder w m (suc n) x = remainder w m n (bit_xor x (m * 2 ^ n * (x / 2 ^ (w + n) % 2)))

-- the product modulo the polynomial m, of degree w
unfoldable pub product_in : ℕ → ℕ → ℕ → ℕ → ℕ
product_in w m a b = remainder w m w (times w a b)
