-- The point of a column. Document 01: "Column c up to 15 is the value at point c of the cubic through the four data symbols at points 0 to 3; column 16
-- is its leading coefficient", which is its value at infinity.
use Rattle.std.specs.Prelude.{Bool, true, false, List, [], ◌∷◌, ℕ, ◌%◌, T, ltb}
use Rattle.std.proofs.Common.{mod-lt, lt→ltb, lit<}
use Rattle.algebra.specs.Polynomial.{Point, fin, inf}
use Rattle.field.specs.Gf16Laws.{Symbol}

pub low : (c : ℕ) → T (ltb (c % 16) 16)
low c = lt→ltb (c % 16) 16 (mod-lt c (lit< tt))

abbrev pub point_if : Bool → ℕ → Point Symbol
point_if true c = fin (c % 16, low c)
point_if false c = inf

-- below 16 the element c, else infinity
unfoldable pub point : ℕ → Point Symbol
point c = point_if (ltb c 16) c

-- the points of the four data symbols
abbrev pub places : List (Point Symbol)
places = fin (0, tt) ∷ fin (1, tt) ∷ fin (2, tt) ∷ fin (3, tt) ∷ []
