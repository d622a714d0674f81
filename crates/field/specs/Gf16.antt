-- GF(16). Document 01: "Symbols are the numbers 0 to 15. Sum is exclusive or. Product is that of polynomials over GF(2) modulo t^4+t+1, with bit i of
-- a symbol as the coefficient of t^i". The width is 4 and the modulus the number 19, whose digits are those of t^4 + t + 1. Sums are `bit_xor`.
use Rattle.std.specs.Prelude.{ℕ}
use Rattle.algebra.specs.Binary.{product_in}

abbrev pub product : ℕ → ℕ → ℕ
product a b = product_in 4 19 a b
