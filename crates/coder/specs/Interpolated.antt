-- Polynomials over GF(256), and the value at a point of the one through given points. A reader wants `evaluate p x`, the value of a polynomial, and
-- `interpolated ps ys q`: the value at q of the polynomial of degree below the number of the points ps that has the values ys there, by Lagrange's
-- formula. The formula need not be believed: that this is the one such polynomial's value is stated by `evaluate` alone (specs/Claims).
use Rattle.std.specs.Prelude.{List, [], ◌∷◌, map, ℕ, ◌%◌, ◌<◌, T, ltb}
use Rattle.std.proofs.Common.{mod-lt, lt→ltb, lit<}
use Rattle.std.specs.Int.Bits.{bit_xor}
use Rattle.algebra.specs.Polynomial.{Point, fin, All}
use Rattle.algebra.specs.Lagrange.{lagrange}
use Rattle.field256.specs.Gf256.{product}
use Rattle.field256.specs.Gf256Laws.{Byte, gf256}

-- every entry is a byte
abbrev pub Bytes : List ℕ → Type 0
Bytes l = All (λ x. x < 256) l

-- the value at x of the polynomial with the coefficients p, lowest first
unfoldable pub evaluate : List ℕ → ℕ → ℕ
evaluate [] x = 0
evaluate (a ∷ p) x = bit_xor a (product x (evaluate p x))

pub low : (x : ℕ) → T (ltb (x % 256) 256)
low x = lt→ltb (x % 256) 256 (mod-lt x (lit< tt))

-- a byte as an element of the field, and as a point
abbrev pub element : ℕ → Byte
element x = (x % 256, low x)

abbrev pub point : ℕ → Point Byte
point x = fin (element x)

unfoldable pub interpolated : List ℕ → List ℕ → ℕ → ℕ
interpolated ps ys q = (lagrange gf256 [] (map point ps) (map element ys) (point q)).0
