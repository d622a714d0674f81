-- GF(256). Document 02: "over GF(256), modulo t^8+t^4+t^3+t^2+1". Elements are the numbers 0 to 255, with bit i as the coefficient of t^i. The width is
-- 8 and the modulus the number 285, whose digits are those of t^8 + t^4 + t^3 + t^2 + 1. Sums are `bit_xor`.
use Rattle.std.specs.Prelude.{ℕ}
use Rattle.algebra.specs.Binary.{product_in}

abbrev pub product : ℕ → ℕ → ℕ
product a b = product_in 8 285 a b
