-- The weights of four columns are symbols, and they rebuild. A reader wants `rebuilt_has`: for any four symbols at four different columns, wrong ones
-- too, the data that the weights give have these symbols there.
use Rattle.std.specs.Prelude.{◌≡◌, true, List, [], ◌∷◌, map, ℕ, ◌≤◌, ◌<◌, length, get_or}
use Rattle.std.proofs.Math.Path.{refl}
use Rattle.std.proofs.Common.{ap, ◌∙◌, sym, subst, le_of_suc-le-suc, arith, lit<}
use Rattle.std.proofs.lemmas.Nat.{xor_lt}
use Rattle.algebra.specs.BinaryLaws.{bound}
use Rattle.algebra.specs.BinaryField.{below}
use Rattle.algebra.specs.Polynomial.{Point, fin}
use Rattle.algebra.specs.Lagrange.{weight, lagrange, Takes}
use Rattle.algebra.specs.Interpolation.{rebuilt}
use Rattle.field.specs.Gf16.{product}
use Rattle.field.specs.Gf16Laws.{Symbol, gf16, tested}
use Rattle.code.specs.Matrix.{encode, within, different}
use Rattle.code.specs.Lists.{four, each_four, within_head, within_tail, within_four}
use Rattle.code.specs.Symbols.{numbers, symbol}
use Rattle.code.specs.Point.{point, places}
use Rattle.code.specs.PointLaws.{distinct_points, distinct_places}
use Rattle.code.proofs.Rule.{encode_is}
use Rattle.code.specs.Weights.{weight_of, weights_of, combination, data_of}

-- ---- weights and sums of products are symbols
weight_bound : (a b c p q : ℕ) → weight_of a b c p q ≤ 15
unfolding weight_of
weight_bound a b c p q = le_of_suc-le-suc (below 4 (weight gf16 (point a ∷ point b ∷ point c ∷ []) (point p) (point q)))

pub weights_within : (cs : List ℕ) (q : ℕ) → within 15 (weights_of cs q) ≡ true
unfolding weights_of
weights_within cs q = within_four 15 _ _ _ _ (weight_bound _ _ _ _ q) (weight_bound _ _ _ _ q) (weight_bound _ _ _ _ q) (weight_bound _ _ _ _ q)

pub combination_bound : (ws ys : List ℕ) → within 15 ws ≡ true → within 15 ys ≡ true → combination ws ys < 16
combination_bound [] ys h k = lit< tt
combination_bound (w ∷ ws) [] h k = lit< tt
combination_bound (w ∷ ws) (y ∷ ys) h k =
    xor_lt 4 (product y w) (combination ws ys)
    (bound tested y w (omega (arith, within_head 15 y ys k)) (omega (arith, within_head 15 w ws h)))
    (combination_bound ws ys (within_tail 15 w ws h) (within_tail 15 y ys k))

pub data_within : (cs ys : List ℕ) → within 15 ys ≡ true → within 15 (data_of cs ys) ≡ true
data_within cs ys k = within_four 15 _ _ _ _ (low 0) (low 1) (low 2) (low 3)
  where
    low : (q : ℕ) → combination (weights_of cs q) ys ≤ 15
    low q = le_of_suc-le-suc (combination_bound (weights_of cs q) ys (weights_within cs q) k)

-- ---- the data that the weights give have the symbols that they are made of
module _ (c0 c1 c2 c3 : ℕ) (Y0 Y1 Y2 Y3 : Symbol) where
  abbrev cs4 : List ℕ
  cs4 = c0 ∷ c1 ∷ c2 ∷ c3 ∷ []

  abbrev ys4 : List Symbol
  ys4 = Y0 ∷ Y1 ∷ Y2 ∷ Y3 ∷ []

  abbrev through : Point Symbol → Symbol
  through = lagrange gf16 [] (map point cs4) ys4

  data_is : numbers (map through places) ≡ data_of cs4 (numbers ys4)
  unfolding point weights_of weight_of
  data_is = refl

  module _ (w : within 16 cs4 ≡ true) (d : different cs4 ≡ true) where
    solved : Takes gf16 (lagrange gf16 [] places (map through places)) (map point cs4) ys4
    solved = rebuilt gf16 places (map point cs4) ys4 distinct_places (distinct_points cs4 w d) refl refl

    -- one symbol of the data
    at_column : (c : ℕ) → c ≤ 16 → (Y : Symbol) → lagrange gf16 [] places (map through places) (point c) ≡ Y
        → encode (data_of cs4 (numbers ys4)) c ≡ Y.0
    at_column c h Y e =
        subst (λ (l : List ℕ). encode l c ≡ (lagrange gf16 [] places (map through places) (point c)).0) data_is
        (sym (encode_is (through (fin (0, tt))) (through (fin (1, tt))) (through (fin (2, tt))) (through (fin (3, tt))) c (omega arith)))
        ∙ ap (λ (a : Symbol). a.0) e

    four_columns : (j : ℕ) → j < 4 → encode (data_of cs4 (numbers ys4)) (get_or cs4 j 0) ≡ get_or (numbers ys4) j 0
    four_columns =
        let w1 = within_tail 16 c0 (c1 ∷ c2 ∷ c3 ∷ []) w in
        let w2 = within_tail 16 c1 (c2 ∷ c3 ∷ []) w1 in
        each_four (λ j. encode (data_of cs4 (numbers ys4)) (get_or cs4 j 0) ≡ get_or (numbers ys4) j 0)
        (at_column c0 (within_head 16 c0 (c1 ∷ c2 ∷ c3 ∷ []) w) Y0 solved.0)
        (at_column c1 (within_head 16 c1 (c2 ∷ c3 ∷ []) w1) Y1 solved.1.0)
        (at_column c2 (within_head 16 c2 (c3 ∷ []) w2) Y2 solved.1.1.0)
        (at_column c3 (within_head 16 c3 [] (within_tail 16 c2 (c3 ∷ []) w2)) Y3 solved.1.1.1.0)

pub rebuilt_has : (cs : List ℕ) → length cs ≡ 4 → within 16 cs ≡ true → different cs ≡ true → (ys : List ℕ) → length ys ≡ 4 → within 15 ys ≡ true
    → (j : ℕ) → j < 4 → encode (data_of cs ys) (get_or cs j 0) ≡ get_or ys j 0
unfolding symbol
rebuilt_has =
    four (λ cs. within 16 cs ≡ true → different cs ≡ true → (ys : List ℕ) → length ys ≡ 4 → within 15 ys ≡ true
    → (j : ℕ) → j < 4 → encode (data_of cs ys) (get_or cs j 0) ≡ get_or ys j 0)
    (λ c0 c1 c2 c3 w d. four (λ ys. within 15 ys ≡ true
    → (j : ℕ) → j < 4 → encode (data_of (c0 ∷ c1 ∷ c2 ∷ c3 ∷ []) ys) (get_or (c0 ∷ c1 ∷ c2 ∷ c3 ∷ []) j 0) ≡ get_or ys j 0)
    (λ y0 y1 y2 y3 v.
    let v1 = within_tail 15 y0 (y1 ∷ y2 ∷ y3 ∷ []) v in
    let v2 = within_tail 15 y1 (y2 ∷ y3 ∷ []) v1 in
    four_columns c0 c1 c2 c3
    (symbol y0 (within_head 15 y0 (y1 ∷ y2 ∷ y3 ∷ []) v))
    (symbol y1 (within_head 15 y1 (y2 ∷ y3 ∷ []) v1))
    (symbol y2 (within_head 15 y2 (y3 ∷ []) v2))
    (symbol y3 (within_head 15 y3 [] (within_tail 15 y2 (y3 ∷ []) v2)))
    w d))
