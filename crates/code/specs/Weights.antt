-- Lagrange's weights of four columns, on numbers, as the code computes them: taken once for a place, then applied to many symbols.
-- A reader wants `weights_of cs q`, the weights of the columns cs at column q, `combination ws ys`, the sum of symbols times weights, `mixed ws ys`, the
-- same of bytes, and `data_of cs ys`, the four data symbols from the symbols ys at cs. Nothing here need be believed: WeightsLaws shows that these data
-- have the symbols ys, Halves that a sum of bytes has the sums of their halves.
use Rattle.std.specs.Prelude.{List, [], ◌∷◌, ℕ, get_or}
use Rattle.std.specs.Int.Bits.{bit_xor}
use Rattle.algebra.specs.Lagrange.{gap, gaps, weight}
use Rattle.field.specs.Gf16.{product}
use Rattle.field.specs.Gf16Laws.{gf16}
use Rattle.field.specs.Byte.{scale}
use Rattle.code.specs.Point.{point}

-- the difference of two columns as points
unfoldable pub gap_of : ℕ → ℕ → ℕ
gap_of a b = (gap gf16 (point a) (point b)).0

-- the product of the differences of q and three columns
unfoldable pub gaps_of : ℕ → ℕ → ℕ → ℕ → ℕ
gaps_of q a b c = (gaps gf16 (point q) (point a ∷ point b ∷ point c ∷ [])).0

-- the weight of column p at column q, where a, b and c are the other columns
unfoldable pub weight_of : ℕ → ℕ → ℕ → ℕ → ℕ → ℕ
weight_of a b c p q = (weight gf16 (point a ∷ point b ∷ point c ∷ []) (point p) (point q)).0

unfoldable pub weights_of : List ℕ → ℕ → List ℕ
weights_of cs q =
    weight_of (get_or cs 1 0) (get_or cs 2 0) (get_or cs 3 0) (get_or cs 0 0) q
    ∷ weight_of (get_or cs 0 0) (get_or cs 2 0) (get_or cs 3 0) (get_or cs 1 0) q
    ∷ weight_of (get_or cs 1 0) (get_or cs 0 0) (get_or cs 3 0) (get_or cs 2 0) q
    ∷ weight_of (get_or cs 2 0) (get_or cs 1 0) (get_or cs 0 0) (get_or cs 3 0) q ∷ []

abbrev pub combination : List ℕ → List ℕ → ℕ
combination [] ys = 0
combination (w ∷ ws) [] = 0
combination (w ∷ ws) (y ∷ ys) = bit_xor (product y w) (combination ws ys)

abbrev pub mixed : List ℕ → List ℕ → ℕ
mixed [] ys = 0
mixed (w ∷ ws) [] = 0
mixed (w ∷ ws) (y ∷ ys) = bit_xor (scale w y) (mixed ws ys)

abbrev pub data_of : List ℕ → List ℕ → List ℕ
data_of cs ys =
    combination (weights_of cs 0) ys ∷ combination (weights_of cs 1) ys ∷ combination (weights_of cs 2) ys ∷ combination (weights_of cs 3) ys ∷ []
