-- Lagrange's formula over any field, with the point at infinity among its points: a sum of values, each times its weight.
-- A reader wants `weight os C Q`, which is 1 where Q is C and 0 where Q is one of the other points, os, and `lagrange [] cs ys Q`, the value at Q
-- of the polynomial that has the values ys at the points cs. That it is this, LagrangeLaws proves.
use Rattle.std.specs.Prelude.{◌≡◌, List, [], ◌∷◌, ◌++◌}
use Rattle.algebra.specs.Field.{Field}
use Rattle.algebra.specs.Polynomial.{Point, fin, inf}

module _ (F : Field) where
  open F use {A, 𝟘, 𝟙, add as ◌⊕◌, mul as ◌⊗◌, neg as ⊖◌, inv}

  infixl 60 ◌⊕◌
  infixl 70 ◌⊗◌
  infix 80 ⊖◌
  -- the difference of two points: it vanishes where they are equal, and only there
  abbrev pub gap : Point A → Point A → A
  gap (fin x) (fin r) = x ⊕ ⊖ r
  gap (fin x) inf = 𝟙
  gap inf (fin r) = 𝟙
  gap inf inf = 𝟘

  -- the product of the differences of Q and each point of a list
  abbrev pub gaps : Point A → List (Point A) → A
  gaps Q [] = 𝟙
  gaps Q (R ∷ Rs) = gap Q R ⊗ gaps Q Rs

  -- Lagrange's weight of the point C at the point Q, where os are the other points
  abbrev pub weight : List (Point A) → Point A → Point A → A
  weight os C Q = gaps Q os ⊗ inv (gaps C os)

  -- the sum over the points of cs, with a value of ys for each; bs are the points already passed
  abbrev pub lagrange : List (Point A) → List (Point A) → List A → Point A → A
  lagrange bs [] ys Q = 𝟘
  lagrange bs (C ∷ cs) [] Q = 𝟘
  lagrange bs (C ∷ cs) (y ∷ ys) Q = y ⊗ weight (bs ++ cs) C Q ⊕ lagrange (C ∷ bs) cs ys Q

  -- h has the values ys at the points cs
  abbrev pub Takes : (Point A → A) → List (Point A) → List A → Type 0
  Takes h [] [] = Unit
  Takes h [] (y ∷ ys) = ⊥
  Takes h (C ∷ cs) [] = ⊥
  Takes h (C ∷ cs) (y ∷ ys) = (h C ≡ y) × Takes h cs ys
