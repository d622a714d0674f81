-- Polynomials over any field, and the points at which they have values. A polynomial is the list of its coefficients, lowest first. A point is an
-- element of the field or the point at infinity; the value there is the last coefficient, so that no theorem needs a case for it.
-- A reader wants `value p P`, the value of p at P, and `IsPolynomial n f`: f is what some polynomial of n coefficients gives at every point.
use Rattle.std.specs.Prelude.{◌≡◌, List, [], ◌∷◌, ℕ, length}
use Rattle.algebra.specs.Field.{Field}

pub data Point (A : Type 0) : Type 0 where
  fin : A → Point A
  inf : Point A

-- each entry has the property P
abbrev pub All {ℓ} : {X : Type 0} → (X → Type ℓ) → List X → Type ℓ
All P [] = Unit
All P (x ∷ xs) = P x × All P xs

-- no two entries are equal
abbrev pub Distinct : {X : Type 0} → List X → Type 0
Distinct [] = Unit
Distinct (x ∷ xs) = All (λ y. y ≡ x → ⊥) xs × Distinct xs

module _ (F : Field) where
  open F use {A, 𝟘, add as ◌⊕◌, mul as ◌⊗◌}

  infixl 60 ◌⊕◌
  infixl 70 ◌⊗◌
  -- the value at an element x of the field
  abbrev pub eval : List A → A → A
  eval [] x = 𝟘
  eval (a ∷ p) x = a ⊕ x ⊗ eval p x

  -- the last coefficient
  abbrev pub last : List A → A
  last [] = 𝟘
  last (a ∷ []) = a
  last (a ∷ (b ∷ p)) = last (b ∷ p)

  abbrev pub value : List A → Point A → A
  value p (fin x) = eval p x
  value p inf = last p

  -- f is the function of points that a polynomial of n coefficients gives
  pub record IsPolynomial (n : ℕ) (f : Point A → A) : Type 0 where
    pub poly : List A
    pub long : length poly ≡ n
    pub is : (Q : Point A) → value poly Q ≡ f Q
