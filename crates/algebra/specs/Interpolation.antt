-- The code that interpolation makes, over any field: the data are the values of a polynomial at as many points ps, and the symbol at any point is its
-- value there. A reader wants `fixed` (the symbols at as many different points as there are data fix the data) and `rebuilt` (for any symbols at
-- different points, wrong ones too, Lagrange's formula gives data that have them).
use Rattle.std.specs.Prelude.{◌≡◌, refl, List, [], ◌∷◌, map, ℕ, length}
use Rattle.std.proofs.Common.{sym, ap₂, ◌∙◌, subst, arith}
use Rattle.algebra.specs.Field.{Field}
use Rattle.algebra.specs.Polynomial.{Point, All, Distinct, IsPolynomial}
use Rattle.algebra.specs.Lagrange.{lagrange, Takes}
use Rattle.algebra.specs.Roots.{agree}
use Rattle.algebra.specs.LagrangeLaws.{lagrange_takes, lagrange_polynomial, lagrange_only, takes_same}

module _ (F : Field) where
  open F use {A}

  same_values : (h g : Point A → A) (cs : List (Point A)) (ys zs : List A) → ((Q : Point A) → h Q ≡ g Q) → Takes F h cs ys → Takes F g cs zs → ys ≡ zs
  same_values h g [] [] [] e p q = refl
  same_values h g [] [] (z ∷ zs) e p q = absurd q
  same_values h g [] (y ∷ ys) zs e p q = absurd p
  same_values h g (C ∷ cs) [] zs e p q = absurd p
  same_values h g (C ∷ cs) (y ∷ ys) [] e p q = absurd q
  same_values h g (C ∷ cs) (y ∷ ys) (z ∷ zs) e p q = ap₂ (λ (u : A) (us : List A). u ∷ us) (sym p.0 ∙ e C ∙ q.0) (same_values h g cs ys zs e p.1 q.1)

  -- the symbols at as many different points as there are data fix the data
  pub fixed : (ps cs : List (Point A)) (ds es : List A) → Distinct ps → Distinct cs → length ps ≡ length cs → length ps ≡ length ds → length ps ≡ length es
      → All (λ C. lagrange F [] ps ds C ≡ lagrange F [] ps es C) cs → ds ≡ es
  fixed ps cs ds es dp dc l ld le h =
      same_values (lagrange F [] ps ds) (lagrange F [] ps es) ps ds es
      (agree F (length ps) (lagrange F [] ps ds) (lagrange F [] ps es) (lagrange_polynomial F ps ds) (lagrange_polynomial F ps es) cs (omega arith) dc h)
      (lagrange_takes F ps ds ld dp) (lagrange_takes F ps es le dp)

  -- Lagrange's formula gives data with any symbols ys at cs
  pub rebuilt : (ps cs : List (Point A)) (ys : List A) → Distinct ps → Distinct cs → length ps ≡ length cs → length cs ≡ length ys
      → Takes F (lagrange F [] ps (map (lagrange F [] cs ys) ps)) cs ys
  rebuilt ps cs ys dp dc l ly =
      takes_same F (lagrange F [] ps (map (lagrange F [] cs ys) ps)) (lagrange F [] cs ys) cs ys
      (λ R m. lagrange_only F ps (lagrange F [] cs ys) (subst (λ (n : ℕ). IsPolynomial F n (lagrange F [] cs ys)) (sym l) (lagrange_polynomial F cs ys)) dp R)
      (lagrange_takes F cs ys ly dc)
