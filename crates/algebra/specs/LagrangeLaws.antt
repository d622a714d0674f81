-- Lagrange's formula gives a polynomial with the values asked for, and the only one.
-- A reader wants `lagrange_takes` (the values), `lagrange_polynomial` (a polynomial with as many coefficients as points) and `lagrange_only` (any
-- such polynomial is given by the formula from its values at different points). Barycentric uses the facts about points that differ.
use Rattle.std.specs.Prelude.{◌≡◌, ◌⊎◌, length}
use Rattle.std.proofs.Math.Path.{refl, ap, ap₂}
use Rattle.std.proofs.Common.{sym, ◌∙◌, subst, arith, length-append}
use mathlib.Core.List.{List, [], ◌∷◌, ◌++◌, map}
use Rattle.std.proofs.Math.Logic.{inl, inr, ⊎_elim}
use Prim.Native.Nat.{ℕ, suc}
use Rattle.std.proofs.lemmas.List.{length-map}
use Rattle.algebra.specs.FieldLaws as fld
use Rattle.algebra.specs.Field.{Field}
use Rattle.algebra.specs.Polynomial.{Point, fin, inf, All, Distinct, value, IsPolynomial}
use Rattle.algebra.specs.Lagrange.{gap, gaps, weight, lagrange, Takes}
use Rattle.algebra.specs.Division.{times, value_times, length_times, gap_self, gap_ne}
use Rattle.algebra.specs.Roots.{zero_polynomial, sum_polynomial, same_polynomial, agree, suc_inj, zero_ne}

module _ (F : Field) where
  open F use {A, 𝟘, 𝟙, add as ◌⊕◌, mul as ◌⊗◌, neg as ⊖◌, inv, add-zero, mul_assoc, mul_comm, mul-one, mul_inv, one_ne_zero}

  infixl 60 ◌⊕◌
  infixl 70 ◌⊗◌
  infix 80 ⊖◌
  -- the polynomial that vanishes at each point of a list
  product_of : List (Point A) → List A
  product_of [] = 𝟙 ∷ []
  product_of (R ∷ Rs) = times F R (product_of Rs)

  length_product : (Rs : List (Point A)) → length (product_of Rs) ≡ suc (length Rs)
  unfolding product_of
  length_product [] = refl
  length_product (R ∷ Rs) = length_times F R (product_of Rs) ∙ ap suc (length_product Rs)

  value_product : (Rs : List (Point A)) (Q : Point A) → value F (product_of Rs) Q ≡ gaps F Q Rs
  unfolding product_of
  value_product [] (fin t) = ap (λ (z : A). 𝟙 ⊕ z) (fld.mul-zero F t) ∙ add-zero 𝟙
  value_product [] inf = refl
  value_product (R ∷ Rs) Q = value_times F R (product_of Rs) Q ∙ ap (λ (z : A). gap F Q R ⊗ z) (value_product Rs Q)

  gaps_polynomial : (Rs : List (Point A)) → IsPolynomial F (suc (length Rs)) (λ Q. gaps F Q Rs)
  gaps_polynomial Rs = record { poly = product_of Rs; long = length_product Rs; is = value_product Rs }

  -- Q is one of the points of a list
  unfoldable pub Has : Point A → List (Point A) → Type 0
  Has Q [] = ⊥
  Has Q (R ∷ Rs) = (Q ≡ R) ⊎ Has Q Rs

  gaps_zero : (Q : Point A) (Rs : List (Point A)) → Has Q Rs → gaps F Q Rs ≡ 𝟘
  unfolding Has
  gaps_zero Q [] h = absurd h
  gaps_zero Q (R ∷ Rs) h =
      ⊎_elim (λ e. ap (λ (z : A). z ⊗ gaps F Q Rs) (ap (λ (S : Point A). gap F Q S) (sym e) ∙ gap_self F Q) ∙ fld.zero-mul F (gaps F Q Rs))
      (λ k. ap (λ (z : A). gap F Q R ⊗ z) (gaps_zero Q Rs k) ∙ fld.mul-zero F (gap F Q R)) h

  pub gaps_ne : (Q : Point A) (Rs : List (Point A)) → All (λ R. Q ≡ R → ⊥) Rs → gaps F Q Rs ≡ 𝟘 → ⊥
  gaps_ne Q [] h = one_ne_zero
  gaps_ne Q (R ∷ Rs) h = fld.mul_ne_zero F (gap F Q R) (gaps F Q Rs) (gap_ne F Q R h.0) (gaps_ne Q Rs h.1)

  has_left : (Q : Point A) (us bs : List (Point A)) → Has Q us → Has Q (us ++ bs)
  unfolding Has
  has_left Q [] bs h = absurd h
  has_left Q (u ∷ us) bs h = ⊎_elim inl (λ k. inr (has_left Q us bs k)) h

  has_right : (Q : Point A) (us bs : List (Point A)) → Has Q bs → Has Q (us ++ bs)
  unfolding Has
  has_right Q [] bs h = h
  has_right Q (u ∷ us) bs h = inr (has_right Q us bs h)

  no_weight : (y : A) (os : List (Point A)) (C Q : Point A) → Has Q os → y ⊗ weight F os C Q ≡ 𝟘
  no_weight y os C Q h =
      ap (λ (z : A). y ⊗ (z ⊗ inv (gaps F C os))) (gaps_zero Q os h)
      ∙ ap (λ (z : A). y ⊗ z) (fld.zero-mul F (inv (gaps F C os)))
      ∙ fld.mul-zero F y

  -- it vanishes at the points passed
  passed : (bs cs : List (Point A)) (ys : List A) (Q : Point A) → Has Q bs → lagrange F bs cs ys Q ≡ 𝟘
  unfolding Has
  passed bs [] ys Q h = refl
  passed bs (C ∷ cs) [] Q h = refl
  passed bs (C ∷ cs) (y ∷ ys) Q h =
      ap₂ ◌⊕◌ (no_weight y (bs ++ cs) C Q (has_left Q bs cs h)) (passed (C ∷ bs) cs ys Q (inr h)) ∙ add-zero 𝟘

  pub takes_same : (h g : Point A → A) (cs : List (Point A)) (ys : List A) → ((R : Point A) → Has R cs → h R ≡ g R) → Takes F g cs ys → Takes F h cs ys
  unfolding Has
  takes_same h g [] [] e k = tt
  takes_same h g [] (y ∷ ys) e k = k
  takes_same h g (C ∷ cs) [] e k = k
  takes_same h g (C ∷ cs) (y ∷ ys) e k = (e C (inl refl) ∙ k.0, takes_same h g cs ys (λ R m. e R (inr m)) k.1)

  -- a point that differs from those passed and from those to come differs from all; those to come differ from the points passed, of which there are none
  -- at first and one more at each step
  pub apart : (C : Point A) (bs cs : List (Point A)) → All (λ B. C ≡ B → ⊥) bs → All (λ y. y ≡ C → ⊥) cs → All (λ B. C ≡ B → ⊥) (bs ++ cs)
  apart C [] [] p q = tt
  apart C [] (D ∷ cs) p q = ((λ e. q.0 (sym e)), apart C [] cs p q.1)
  apart C (B ∷ bs) cs p q = (p.0, apart C bs cs p.1 q)

  pub fresh_more : (C : Point A) (bs cs : List (Point A)) → All (λ R. All (λ B. R ≡ B → ⊥) bs) cs → All (λ y. y ≡ C → ⊥) cs
      → All (λ R. All (λ B. R ≡ B → ⊥) (C ∷ bs)) cs
  fresh_more C bs [] p q = tt
  fresh_more C bs (D ∷ cs) p q = ((q.0, p.0), fresh_more C bs cs p.1 q.1)

  takes_from : (bs cs : List (Point A)) (ys : List A) → length cs ≡ length ys → All (λ R. All (λ B. R ≡ B → ⊥) bs) cs → Distinct cs
      → Takes F (lagrange F bs cs ys) cs ys
  unfolding Has
  takes_from bs [] [] e f d = tt
  takes_from bs [] (y ∷ ys) e f d = zero_ne (length ys) e
  takes_from bs (C ∷ cs) [] e f d = zero_ne (length cs) (sym e)
  takes_from bs (C ∷ cs) (y ∷ ys) e f d = (
    ap₂ (λ (u v : A). y ⊗ u ⊕ v) (mul_inv (gaps F C (bs ++ cs)) (gaps_ne C (bs ++ cs) (apart C bs cs f.0 d.0)))
        (passed (C ∷ bs) cs ys C (inl refl)) ∙ add-zero (y ⊗ 𝟙) ∙ mul-one y,
    takes_same (lagrange F bs (C ∷ cs) (y ∷ ys)) (lagrange F (C ∷ bs) cs ys) cs ys
        (λ R m. ap (λ (z : A). z ⊕ lagrange F (C ∷ bs) cs ys R) (no_weight y (bs ++ cs) C R (has_right R bs cs m))
        ∙ fld.zero-add F (lagrange F (C ∷ bs) cs ys R))
        (takes_from (C ∷ bs) cs ys (suc_inj (length cs) (length ys) e) (fresh_more C bs cs f.1 d.0) d.1),
  )

  pub fresh_none : (cs : List (Point A)) → All (λ R. All (λ B. R ≡ B → ⊥) []) cs
  fresh_none [] = tt
  fresh_none (C ∷ cs) = (tt, fresh_none cs)

  -- Lagrange's polynomial has the values ys at cs
  pub lagrange_takes : (cs : List (Point A)) (ys : List A) → length cs ≡ length ys → Distinct cs → Takes F (lagrange F [] cs ys) cs ys
  lagrange_takes cs ys e d = takes_from [] cs ys e (fresh_none cs) d

  polynomial_from : (n : ℕ) (bs cs : List (Point A)) (ys : List A) → length (bs ++ cs) ≡ n → IsPolynomial F n (lagrange F bs cs ys)
  polynomial_from n bs [] ys e = zero_polynomial F n
  polynomial_from n bs (C ∷ cs) [] e = zero_polynomial F n
  polynomial_from n bs (C ∷ cs) (y ∷ ys) e =
      same_polynomial F n (λ Q. y ⊗ inv (gaps F C (bs ++ cs)) ⊗ gaps F Q (bs ++ cs) ⊕ lagrange F (C ∷ bs) cs ys Q) (lagrange F bs (C ∷ cs) (y ∷ ys))
      (sum_polynomial F n (y ⊗ inv (gaps F C (bs ++ cs))) (λ Q. gaps F Q (bs ++ cs)) (lagrange F (C ∷ bs) cs ys)
      (subst (λ (m : ℕ). IsPolynomial F m (λ Q. gaps F Q (bs ++ cs))) moved (gaps_polynomial (bs ++ cs)))
      (polynomial_from n (C ∷ bs) cs ys moved))
      (λ Q. ap (λ (z : A). z ⊕ lagrange F (C ∷ bs) cs ys Q)
      (mul_assoc y (inv (gaps F C (bs ++ cs))) (gaps F Q (bs ++ cs)) ∙ ap (λ (z : A). y ⊗ z) (mul_comm (inv (gaps F C (bs ++ cs))) (gaps F Q (bs ++ cs)))))
    where
      moved : suc (length (bs ++ cs)) ≡ n
      moved = omega (arith, length-append bs cs, length-append bs (C ∷ cs))

  pub lagrange_polynomial : (cs : List (Point A)) (ys : List A) → IsPolynomial F (length cs) (lagrange F [] cs ys)
  lagrange_polynomial cs ys = polynomial_from (length cs) [] cs ys refl

  all_of_takes : (h g : Point A → A) (cs : List (Point A)) → Takes F h cs (map g cs) → All (λ C. h C ≡ g C) cs
  all_of_takes h g [] k = tt
  all_of_takes h g (C ∷ cs) k = (k.0, all_of_takes h g cs k.1)

  -- a polynomial's value anywhere is the formula's, from its values at ps
  pub lagrange_only : (ps : List (Point A)) (f : Point A → A) → IsPolynomial F (length ps) f → Distinct ps → (Q : Point A) → lagrange F [] ps (map f ps) Q ≡ f Q
  lagrange_only ps f u d =
      agree F (length ps) (lagrange F [] ps (map f ps)) f (lagrange_polynomial ps (map f ps)) u ps (omega arith) d
      (all_of_takes (lagrange F [] ps (map f ps)) f ps (lagrange_takes ps (map f ps) (sym (length-map ps f)) d))
