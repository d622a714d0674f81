-- Inverses of GF(16).
use Rattle.std.specs.Prelude.{ℕ}
use Rattle.algebra.specs.BinaryTested.{inverse_in}

-- the inverse of a symbol that is not 0, and 0 for 0
abbrev pub inverse : ℕ → ℕ
inverse a = inverse_in 4 19 a
