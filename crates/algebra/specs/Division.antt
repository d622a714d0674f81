-- Multiplying a polynomial by what vanishes at one point, and dividing by it. Steps towards Roots and LagrangeLaws.
-- A reader wants `value_times`, the value of the product, and `divided`: a polynomial that vanishes at a point is such a product.
use Rattle.std.specs.Prelude.{◌≡◌, length}
use Rattle.std.proofs.Math.Path.{refl, sym, ap, ap₂}
use Rattle.std.proofs.Common.{◌∙◌}
use mathlib.Core.List.{List, [], ◌∷◌}
use Prim.Native.Nat.{suc}
use Rattle.algebra.specs.FieldLaws as fld
use Rattle.algebra.specs.Field.{Field}
use Rattle.algebra.specs.Polynomial.{Point, fin, inf, eval, last, value}
use Rattle.algebra.specs.Lagrange.{gap}

module _ (F : Field) where
  open F use {A, 𝟘, 𝟙, add as ◌⊕◌, mul as ◌⊗◌, neg as ⊖◌, add_assoc, add_comm, add-zero, add_neg, mul_comm, dist, one_ne_zero}

  infixl 60 ◌⊕◌
  infixl 70 ◌⊗◌
  infix 80 ⊖◌
  pub gap_self : (R : Point A) → gap F R R ≡ 𝟘
  gap_self (fin r) = add_neg r
  gap_self inf = refl

  pub gap_ne : (Q R : Point A) → (Q ≡ R → ⊥) → gap F Q R ≡ 𝟘 → ⊥
  gap_ne (fin x) (fin r) h e = h (ap fin (fld.sub_eq_zero F x r e))
  gap_ne (fin x) inf h e = one_ne_zero e
  gap_ne inf (fin r) h e = one_ne_zero e
  gap_ne inf inf h e = h refl

  -- y + (t - x) q
  lin : A → A → List A → List A
  lin x y [] = y ∷ []
  lin x y (b ∷ q) = (y ⊕ ⊖ (x ⊗ b)) ∷ lin x b q

  rearrange : (y n t w : A) → y ⊕ n ⊕ (t ⊕ w) ≡ y ⊕ (t ⊕ n ⊕ w)
  rearrange y n t w =
      add_assoc y n (t ⊕ w) ∙ ap (λ (z : A). y ⊕ z) (sym (add_assoc n t w) ∙ ap (λ (z : A). z ⊕ w) (add_comm n t))

  eval_lin : (x y : A) (q : List A) (t : A) → eval F (lin x y q) t ≡ y ⊕ (t ⊕ ⊖ x) ⊗ eval F q t
  unfolding lin
  eval_lin x y [] t = ap (λ (z : A). y ⊕ z) (fld.mul-zero F t ∙ sym (fld.mul-zero F (t ⊕ ⊖ x)))
  eval_lin x y (b ∷ q) t =
      ap (λ (z : A). y ⊕ ⊖ (x ⊗ b) ⊕ t ⊗ z) (eval_lin x b q t)
      ∙ ap (λ (z : A). y ⊕ ⊖ (x ⊗ b) ⊕ z) (dist t b ((t ⊕ ⊖ x) ⊗ eval F q t) ∙ ap (λ (z : A). t ⊗ b ⊕ z) (fld.mul_swap F t (t ⊕ ⊖ x) (eval F q t)))
      ∙ rearrange y (⊖ (x ⊗ b)) (t ⊗ b) ((t ⊕ ⊖ x) ⊗ (t ⊗ eval F q t))
      ∙ ap (λ (z : A). y ⊕ (t ⊗ b ⊕ z ⊕ (t ⊕ ⊖ x) ⊗ (t ⊗ eval F q t))) (sym neg_mul)
      ∙ ap (λ (z : A). y ⊕ (z ⊕ (t ⊕ ⊖ x) ⊗ (t ⊗ eval F q t))) (sym (fld.dist_r F t (⊖ x) b))
      ∙ ap (λ (z : A). y ⊕ z) (sym (dist (t ⊕ ⊖ x) b (t ⊗ eval F q t)))
    where
      neg_mul : ⊖ x ⊗ b ≡ ⊖ (x ⊗ b)
      neg_mul = mul_comm (⊖ x) b ∙ fld.mul_neg F b x ∙ ap ⊖◌ (mul_comm b x)

  last_lin : (x y b : A) (q : List A) → last F (lin x y (b ∷ q)) ≡ last F (b ∷ q)
  unfolding lin
  last_lin x y b [] = refl
  last_lin x y b (c ∷ q) = last_lin x b c q

  snoc : List A → List A
  snoc [] = 𝟘 ∷ []
  snoc (a ∷ p) = a ∷ snoc p

  eval_snoc : (p : List A) (t : A) → eval F (snoc p) t ≡ eval F p t
  unfolding snoc
  eval_snoc [] t = fld.zero-add F (t ⊗ 𝟘) ∙ fld.mul-zero F t
  eval_snoc (a ∷ p) t = ap (λ (z : A). a ⊕ t ⊗ z) (eval_snoc p t)

  last_snoc : (p : List A) → last F (snoc p) ≡ 𝟘
  unfolding snoc
  last_snoc [] = refl
  last_snoc (a ∷ []) = refl
  last_snoc (a ∷ (b ∷ p)) = last_snoc (b ∷ p)

  -- the polynomial q times what vanishes at R
  pub times : Point A → List A → List A
  times (fin r) q = lin r 𝟘 q
  times inf q = snoc q

  pub value_times : (R : Point A) (q : List A) (Q : Point A) → value F (times R q) Q ≡ gap F Q R ⊗ value F q Q
  unfolding times lin
  value_times (fin r) q (fin t) = eval_lin r 𝟘 q t ∙ fld.zero-add F ((t ⊕ ⊖ r) ⊗ eval F q t)
  value_times (fin r) [] inf = sym (fld.mul-zero F 𝟙)
  value_times (fin r) (b ∷ q) inf = last_lin r 𝟘 b q ∙ sym (fld.one-mul F (last F (b ∷ q)))
  value_times inf q (fin t) = eval_snoc q t ∙ sym (fld.one-mul F (eval F q t))
  value_times inf q inf = last_snoc q ∙ sym (fld.zero-mul F (last F q))

  length_lin : (x y : A) (q : List A) → length (lin x y q) ≡ suc (length q)
  unfolding lin
  length_lin x y [] = refl
  length_lin x y (b ∷ q) = ap suc (length_lin x b q)

  length_snoc : (p : List A) → length (snoc p) ≡ suc (length p)
  unfolding snoc
  length_snoc [] = refl
  length_snoc (a ∷ p) = ap suc (length_snoc p)

  pub length_times : (R : Point A) (q : List A) → length (times R q) ≡ suc (length q)
  unfolding times
  length_times (fin r) q = length_lin r 𝟘 q
  length_times inf q = length_snoc q

  -- division by what vanishes at a point
  quot : A → A → List A → List A
  quot r a [] = []
  quot r a (b ∷ p) = eval F (b ∷ p) r ∷ quot r b p

  quot_is : (r a : A) (p : List A) → a ∷ p ≡ lin r (eval F (a ∷ p) r) (quot r a p)
  unfolding quot lin
  quot_is r a [] = ap (λ (z : A). z ∷ []) (sym (ap (λ (z : A). a ⊕ z) (fld.mul-zero F r) ∙ add-zero a))
  quot_is r a (b ∷ p) =
      ap₂ (λ (z : A) (q : List A). z ∷ q) (sym (fld.add_sub F a (r ⊗ eval F (b ∷ p) r))) (quot_is r b p)

  init : A → List A → List A
  init a [] = []
  init a (b ∷ p) = a ∷ init b p

  init_is : (a : A) (p : List A) → last F (a ∷ p) ≡ 𝟘 → a ∷ p ≡ snoc (init a p)
  unfolding init snoc
  init_is a [] e = ap (λ (z : A). z ∷ []) e
  init_is a (b ∷ p) e = ap (λ (q : List A). a ∷ q) (init_is b p e)

  -- a polynomial with a root at R is what vanishes at R times another
  pub divided : (R : Point A) (a : A) (p : List A) → value F (a ∷ p) R ≡ 𝟘 → (q : List A) × (a ∷ p ≡ times R q)
  unfolding times
  divided (fin r) a p e = (quot r a p, quot_is r a p ∙ ap (λ (y : A). lin r y (quot r a p)) e)
  divided inf a p e = (init a p, init_is a p e)
