-- Lagrange's weights of many points at a point that is none of them, over any field, with what they share taken once (the barycentric form): the weight
-- of C at Q is the product of the differences of Q and all points, divided by the difference of Q and C and by the product of the differences of C and
-- the other points. A reader wants `weights`, `lagrange_weights` (Lagrange's formula is the sum of the values times these) and `weights_are`.
use Rattle.std.specs.Prelude.{◌≡◌, refl, List, [], ◌∷◌, ◌++◌, map}
use Rattle.std.proofs.Common.{sym, ap, ap₂, ◌∙◌}
use Rattle.algebra.specs.FieldLaws as fld
use Rattle.algebra.specs.Field.{Field}
use Rattle.algebra.specs.Polynomial.{Point, All, Distinct}
use Rattle.algebra.specs.Lagrange.{gap, gaps, weight, lagrange}
use Rattle.algebra.specs.LagrangeLaws.{gaps_ne, apart, fresh_more, fresh_none}
use Rattle.algebra.specs.Division.{gap_ne}

module _ (F : Field) where
  open F use {A, 𝟘, 𝟙, add as ◌⊕◌, mul as ◌⊗◌, inv, mul_assoc, mul_comm, mul-one, mul_inv}

  infixl 60 ◌⊕◌
  infixl 70 ◌⊗◌
  -- Lagrange's weights of the points cs at Q; bs are the points already passed
  abbrev pub weights : List (Point A) → List (Point A) → Point A → List A
  weights bs [] Q = []
  weights bs (C ∷ cs) Q = weight F (bs ++ cs) C Q ∷ weights (C ∷ bs) cs Q

  -- the sum of values times weights
  abbrev pub combined : List A → List A → A
  combined [] ws = 𝟘
  combined (y ∷ ys) [] = 𝟘
  combined (y ∷ ys) (w ∷ ws) = y ⊗ w ⊕ combined ys ws

  pub lagrange_weights : (bs cs : List (Point A)) (ys : List A) (Q : Point A) → lagrange F bs cs ys Q ≡ combined ys (weights bs cs Q)
  lagrange_weights bs [] [] Q = refl
  lagrange_weights bs [] (y ∷ ys) Q = refl
  lagrange_weights bs (C ∷ cs) [] Q = refl
  lagrange_weights bs (C ∷ cs) (y ∷ ys) Q = ap (λ (z : A). y ⊗ weight F (bs ++ cs) C Q ⊕ z) (lagrange_weights (C ∷ bs) cs ys Q)

  gaps_append : (Q : Point A) (bs cs : List (Point A)) → gaps F Q (bs ++ cs) ≡ gaps F Q bs ⊗ gaps F Q cs
  gaps_append Q [] cs = sym (fld.one-mul F (gaps F Q cs))
  gaps_append Q (B ∷ bs) cs = ap (λ (z : A). gap F Q B ⊗ z) (gaps_append Q bs cs) ∙ sym (mul_assoc (gap F Q B) (gaps F Q bs) (gaps F Q cs))

  -- the weight of C from the product over all points, C among them
  weight_is : (os : List (Point A)) (C Q : Point A) → (Q ≡ C → ⊥) → All (λ R. C ≡ R → ⊥) os
      → weight F os C Q ≡ gap F Q C ⊗ gaps F Q os ⊗ inv (gap F Q C ⊗ gaps F C os)
  weight_is os C Q n d =
      fld.quotient F (weight F os C Q) (gap F Q C ⊗ gaps F C os) (gap F Q C ⊗ gaps F Q os)
      (fld.mul_ne_zero F (gap F Q C) (gaps F C os) (gap_ne F Q C n) (gaps_ne F C os d))
      (fld.mul_swap F (gaps F Q os ⊗ inv (gaps F C os)) (gap F Q C) (gaps F C os)
      ∙ ap (λ (z : A). gap F Q C ⊗ z)
      (mul_assoc (gaps F Q os) (inv (gaps F C os)) (gaps F C os)
      ∙ ap (λ (z : A). gaps F Q os ⊗ z) (mul_comm (inv (gaps F C os)) (gaps F C os) ∙ mul_inv (gaps F C os) (gaps_ne F C os d))
      ∙ mul-one (gaps F Q os)))

  -- `other C R` is the difference of C and R, or 1 where they are equal
  module _ (other : Point A → Point A → A) (same : (C : Point A) → other C C ≡ 𝟙) (differ : (C R : Point A) → (C ≡ R → ⊥) → other C R ≡ gap F C R) where
    -- the product of the differences of C and the other points of a list
    abbrev pub others : Point A → List (Point A) → A
    others C [] = 𝟙
    others C (R ∷ Rs) = other C R ⊗ others C Rs

    others_fresh : (C : Point A) (Rs : List (Point A)) → All (λ R. C ≡ R → ⊥) Rs → others C Rs ≡ gaps F C Rs
    others_fresh C [] h = refl
    others_fresh C (R ∷ Rs) h = ap₂ ◌⊗◌ (differ C R h.0) (others_fresh C Rs h.1)

    -- the weight of C at Q as the products over all points l give it
    abbrev pub shared : List (Point A) → Point A → Point A → A
    shared l Q C = others Q l ⊗ inv (other Q C ⊗ others C l)

    moved : (x b c : A) → b ⊗ (x ⊗ c) ≡ x ⊗ b ⊗ c
    moved x b c = fld.mul_swap F b x c ∙ sym (mul_assoc x b c)

    -- bs are the points already passed, and l has those and the points cs
    weights_from : (l bs cs : List (Point A)) (Q : Point A)
        → others Q l ≡ gaps F Q bs ⊗ gaps F Q cs → ((C : Point A) → others C l ≡ others C bs ⊗ others C cs)
        → All (λ C. Q ≡ C → ⊥) cs → All (λ R. All (λ B. R ≡ B → ⊥) bs) cs → Distinct cs
        → weights bs cs Q ≡ map (shared l Q) cs
    weights_from l bs [] Q p q n f d = refl
    weights_from l bs (C ∷ cs) Q p q n f d =
        ap₂ (λ (x : A) (xs : List A). x ∷ xs)
        (weight_is (bs ++ cs) C Q n.0 (apart F C bs cs f.0 d.0)
        ∙ ap₂ (λ (x y : A). x ⊗ inv y)
        (ap (λ (z : A). gap F Q C ⊗ z) (gaps_append Q bs cs) ∙ fld.mul_swap F (gap F Q C) (gaps F Q bs) (gaps F Q cs) ∙ sym p)
        (ap₂ ◌⊗◌ (sym (differ Q C n.0))
        (gaps_append C bs cs
        ∙ ap₂ ◌⊗◌ (sym (others_fresh C bs f.0))
        (sym (others_fresh C cs (apart F C [] cs tt d.0)) ∙ sym (ap (λ (z : A). z ⊗ others C cs) (same C) ∙ fld.one-mul F (others C cs)))
        ∙ sym (q C))))
        (weights_from l (C ∷ bs) cs Q (p ∙ moved (gap F Q C) (gaps F Q bs) (gaps F Q cs)) (λ D. q D ∙ moved (other D C) (others D bs) (others D cs)) n.1
        (fresh_more F C bs cs f.1 d.0) d.1)

    pub weights_are : (l : List (Point A)) (Q : Point A) → All (λ C. Q ≡ C → ⊥) l → Distinct l → weights [] l Q ≡ map (shared l Q) l
    weights_are l Q n d =
        weights_from l [] l Q (others_fresh Q l n ∙ sym (fld.one-mul F (gaps F Q l))) (λ C. sym (fld.one-mul F (others C l))) n (fresh_none F l) d
