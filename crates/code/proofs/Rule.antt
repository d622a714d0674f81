-- The interpolation rule of the matrix, shown for all seventeen columns at once: each entry is Lagrange's weight of its place at its column, by one
-- computed test. A reader wants `rule`: of the values of any cubic at 0 to 3 the symbol at column c is the cubic's value at c, at column 16 its leading
-- coefficient; and `cubic`: such a cubic exists for any four data symbols.
use Rattle.std.specs.Prelude.{◌≡◌, refl, List, [], ◌∷◌, map, ℕ, zero, suc, ◌<◌, T, eqb, length}
use Rattle.std.proofs.Common.{ap, ◌∙◌, sym, eqb→eq, lit<}
use Rattle.std.specs.Int.Bits.{bit_xor}
use Rattle.algebra.specs.Every.{every, every_at}
use Rattle.algebra.specs.Binary.{times, remainder, product_in}
use Rattle.algebra.specs.BinaryTested.{inverse_in, squares}
use Rattle.algebra.specs.Polynomial.{Point, fin, value}
use Rattle.algebra.specs.Lagrange.{weight, lagrange, Takes}
use Rattle.algebra.specs.LagrangeLaws.{lagrange_takes, lagrange_polynomial, lagrange_only}
use Rattle.field.specs.Gf16.{product}
use Rattle.field.specs.Gf16Laws.{Symbol, gf16}
use Rattle.code.specs.Matrix.{matrix, entry, encode}
use Rattle.code.specs.Symbols.{numbers}
use Rattle.code.specs.Point.{point, places}
use Rattle.code.specs.PointLaws.{distinct_places}

-- the other places, in the order in which Lagrange's formula meets them
abbrev others : ℕ → List (Point Symbol)
others zero = fin (1, tt) ∷ fin (2, tt) ∷ fin (3, tt) ∷ []
others (suc zero) = fin (0, tt) ∷ fin (2, tt) ∷ fin (3, tt) ∷ []
others (suc (suc zero)) = fin (1, tt) ∷ fin (0, tt) ∷ fin (3, tt) ∷ []
others (suc (suc (suc n))) = fin (2, tt) ∷ fin (1, tt) ∷ fin (0, tt) ∷ []

abbrev weight_at : ℕ → ℕ → ℕ
weight_at place c = (weight gf16 (others place) (point place) (point c)).0

weight_all : T (every 4 (λ r. every 17 (λ c. eqb (entry r c) (weight_at r c))))
unfolding every point entry matrix product_in remainder times inverse_in squares
weight_all = tt

entry_is : (r c : ℕ) → r < 4 → c < 17 → entry r c ≡ weight_at r c
entry_is r c hr hc =
    eqb→eq (entry r c) (weight_at r c)
    (every_at 17 (λ y. eqb (entry r y) (weight_at r y)) (every_at 4 (λ x. every 17 (λ y. eqb (entry x y) (weight_at x y))) weight_all r hr) c hc)

-- the symbol at a column is the value there of Lagrange's polynomial through the data
pub encode_is : (d0 d1 d2 d3 : Symbol) (c : ℕ) → c < 17
    → (lagrange gf16 [] places (d0 ∷ d1 ∷ d2 ∷ d3 ∷ []) (point c)).0 ≡ encode (numbers (d0 ∷ d1 ∷ d2 ∷ d3 ∷ [])) c
unfolding point
encode_is d0 d1 d2 d3 c h = λ i.
    bit_xor (product d0.0 (sym (entry_is 0 c (lit< tt) h) i)) (bit_xor (product d1.0 (sym (entry_is 1 c (lit< tt) h) i))
    (bit_xor (product d2.0 (sym (entry_is 2 c (lit< tt) h) i)) (bit_xor (product d3.0 (sym (entry_is 3 c (lit< tt) h) i)) 0)))

-- The cubic's coefficients are a0 to a3, lowest first.
pub rule : (a0 a1 a2 a3 : Symbol) (c : ℕ) → c < 17
    → encode (numbers (map (value gf16 (a0 ∷ a1 ∷ a2 ∷ a3 ∷ [])) places)) c ≡ (value gf16 (a0 ∷ a1 ∷ a2 ∷ a3 ∷ []) (point c)).0
rule a0 a1 a2 a3 c h =
    sym (encode_is (v (fin (0, tt))) (v (fin (1, tt))) (v (fin (2, tt))) (v (fin (3, tt))) c h)
    ∙ ap (λ (a : Symbol). a.0)
    (lagrange_only gf16 places v (record { poly = a0 ∷ a1 ∷ a2 ∷ a3 ∷ []; long = refl; is = λ Q. refl }) distinct_places (point c))
  where
    v : Point Symbol → Symbol
    v = value gf16 (a0 ∷ a1 ∷ a2 ∷ a3 ∷ [])

pub cubic : (d0 d1 d2 d3 : Symbol)
    → (p : List Symbol) × (length p ≡ 4) × Takes gf16 (value gf16 p) places (d0 ∷ d1 ∷ d2 ∷ d3 ∷ [])
    × ((c : ℕ) → c < 17 → encode (numbers (d0 ∷ d1 ∷ d2 ∷ d3 ∷ [])) c ≡ (value gf16 p (point c)).0)
cubic d0 d1 d2 d3 =
    let u = lagrange_polynomial gf16 places (d0 ∷ d1 ∷ d2 ∷ d3 ∷ []) in
    let h = lagrange_takes gf16 places (d0 ∷ d1 ∷ d2 ∷ d3 ∷ []) refl distinct_places in (
      u.poly,
      u.long,
      (u.is (fin (0, tt)) ∙ h.0, (u.is (fin (1, tt)) ∙ h.1.0, (u.is (fin (2, tt)) ∙ h.1.1.0, (u.is (fin (3, tt)) ∙ h.1.1.1.0, tt)))),
      λ c k. sym (encode_is d0 d1 d2 d3 c k) ∙ sym (ap (λ (a : Symbol). a.0) (u.is (point c))),
    )
