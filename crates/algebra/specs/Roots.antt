-- A polynomial of n coefficients that vanishes at n different points vanishes everywhere, and so n different points fix it.
-- A reader wants `agree`: two polynomials of n coefficients that have the same values at n different points have the same values at every point.
use Rattle.std.specs.Prelude.{◌≡◌, length}
use Rattle.std.proofs.Math.Path.{refl, sym, ap}
use Rattle.std.proofs.Common.{ap₂, ◌∙◌, subst, le_of_suc-le-suc, not-suc-le-zero, arith}
use mathlib.Core.List.{List, [], ◌∷◌}
use Prim.Native.Nat.{ℕ, zero, suc, ◌≤◌}
use Rattle.algebra.specs.FieldLaws as fld
use Rattle.algebra.specs.Field.{Field}
use Rattle.algebra.specs.Polynomial.{Point, fin, inf, All, Distinct, eval, last, value, IsPolynomial}
use Rattle.algebra.specs.Lagrange.{gap}
use Rattle.algebra.specs.Division.{times, value_times, length_times, divided, gap_ne}

pub suc_inj : (m n : ℕ) → suc m ≡ suc n → m ≡ n
suc_inj m n e = omega arith

pub zero_ne : (n : ℕ) → zero ≡ suc n → ⊥
zero_ne n e = omega arith

module _ (F : Field) where
  open F use {A, 𝟘, 𝟙, add as ◌⊕◌, mul as ◌⊗◌, neg as ⊖◌, add_comm, add-zero, mul_comm, mul-one, dist}

  infixl 60 ◌⊕◌
  infixl 70 ◌⊗◌
  infix 80 ⊖◌
  -- ---- a polynomial of n coefficients with n different roots vanishes
  -- what is left of the roots once R is divided out
  others : (R : Point A) (p q : List A) → p ≡ times F R q → (Rs : List (Point A)) → All (λ S. S ≡ R → ⊥) Rs
      → All (λ S. value F p S ≡ 𝟘) Rs → All (λ S. value F q S ≡ 𝟘) Rs
  others R p q e [] h z = tt
  others R p q e (S ∷ Rs) h z = (
    fld.factor_zero F (gap F S R) (value F q S) (gap_ne F S R h.0)
        (sym (ap (λ (l : List A). value F l S) e ∙ value_times F R q S) ∙ z.0),
    others R p q e Rs h.1 z.1,
  )

  vanish_nil : (Q : Point A) → value F [] Q ≡ 𝟘
  vanish_nil (fin x) = refl
  vanish_nil inf = refl

  vanish : (Rs : List (Point A)) (p : List A) → length p ≤ length Rs → Distinct Rs → All (λ R. value F p R ≡ 𝟘) Rs
      → (Q : Point A) → value F p Q ≡ 𝟘
  vanish [] [] l d z Q = vanish_nil Q
  vanish [] (a ∷ p) l d z Q = absurd (not-suc-le-zero l)
  vanish (R ∷ Rs) [] l d z Q = vanish_nil Q
  vanish (R ∷ Rs) (a ∷ p) l d z Q =
      let w : (q : List A) × (a ∷ p ≡ times F R q) = divided F R a p z.0 in
      ap (λ (l : List A). value F l Q) w.1 ∙ value_times F R w.0 Q
      ∙ ap (λ (y : A). gap F Q R ⊗ y)
      (vanish Rs w.0 (le_of_suc-le-suc (subst (λ (n : ℕ). n ≤ suc (length Rs)) (ap length w.1 ∙ length_times F R w.0) l)) d.1
      (others R (a ∷ p) w.0 w.1 Rs d.0 z.1) Q)
      ∙ fld.mul-zero F (gap F Q R)

  -- ---- k p + q
  axpy : A → List A → List A → List A
  axpy k [] q = []
  axpy k (a ∷ p) [] = []
  axpy k (a ∷ p) (b ∷ q) = (k ⊗ a ⊕ b) ∷ axpy k p q

  eval_axpy : (k : A) (p q : List A) → length p ≡ length q → (t : A) → eval F (axpy k p q) t ≡ k ⊗ eval F p t ⊕ eval F q t
  unfolding axpy
  eval_axpy k [] [] e t = sym (add-zero (k ⊗ 𝟘) ∙ fld.mul-zero F k)
  eval_axpy k [] (b ∷ q) e t = absurd (zero_ne (length q) e)
  eval_axpy k (a ∷ p) [] e t = absurd (zero_ne (length p) (sym e))
  eval_axpy k (a ∷ p) (b ∷ q) e t =
      ap (λ (z : A). k ⊗ a ⊕ b ⊕ t ⊗ z) (eval_axpy k p q (suc_inj (length p) (length q) e) t)
      ∙ ap (λ (z : A). k ⊗ a ⊕ b ⊕ z) (dist t (k ⊗ eval F p t) (eval F q t) ∙ ap (λ (z : A). z ⊕ t ⊗ eval F q t) (fld.mul_swap F t k (eval F p t)))
      ∙ fld.add_swap F (k ⊗ a) b (k ⊗ (t ⊗ eval F p t)) (t ⊗ eval F q t)
      ∙ ap (λ (z : A). z ⊕ (b ⊕ t ⊗ eval F q t)) (sym (dist k a (t ⊗ eval F p t)))

  last_axpy : (k : A) (p q : List A) → length p ≡ length q → last F (axpy k p q) ≡ k ⊗ last F p ⊕ last F q
  unfolding axpy
  last_axpy k [] [] e = sym (add-zero (k ⊗ 𝟘) ∙ fld.mul-zero F k)
  last_axpy k [] (b ∷ q) e = absurd (zero_ne (length q) e)
  last_axpy k (a ∷ p) [] e = absurd (zero_ne (length p) (sym e))
  last_axpy k (a ∷ []) (b ∷ []) e = refl
  last_axpy k (a ∷ []) (b ∷ (d ∷ q)) e = absurd (zero_ne (length q) (suc_inj zero (suc (length q)) e))
  last_axpy k (a ∷ (c ∷ p)) (b ∷ []) e = absurd (zero_ne (length p) (suc_inj zero (suc (length p)) (sym e)))
  last_axpy k (a ∷ (c ∷ p)) (b ∷ (d ∷ q)) e = last_axpy k (c ∷ p) (d ∷ q) (suc_inj (suc (length p)) (suc (length q)) e)

  value_axpy : (k : A) (p q : List A) → length p ≡ length q → (Q : Point A) → value F (axpy k p q) Q ≡ k ⊗ value F p Q ⊕ value F q Q
  value_axpy k p q e (fin t) = eval_axpy k p q e t
  value_axpy k p q e inf = last_axpy k p q e

  length_axpy : (k : A) (p q : List A) → length p ≡ length q → length (axpy k p q) ≡ length p
  unfolding axpy
  length_axpy k [] [] e = refl
  length_axpy k [] (b ∷ q) e = refl
  length_axpy k (a ∷ p) [] e = absurd (zero_ne (length p) (sym e))
  length_axpy k (a ∷ p) (b ∷ q) e = ap suc (length_axpy k p q (suc_inj (length p) (length q) e))

  zeros : ℕ → List A
  zeros zero = []
  zeros (suc n) = 𝟘 ∷ zeros n

  length_zeros : (n : ℕ) → length (zeros n) ≡ n
  unfolding zeros
  length_zeros zero = refl
  length_zeros (suc n) = ap suc (length_zeros n)

  eval_zeros : (n : ℕ) (t : A) → eval F (zeros n) t ≡ 𝟘
  unfolding zeros
  eval_zeros zero t = refl
  eval_zeros (suc n) t = fld.zero-add F (t ⊗ eval F (zeros n) t) ∙ ap (λ (z : A). t ⊗ z) (eval_zeros n t) ∙ fld.mul-zero F t

  last_zeros : (n : ℕ) → last F (zeros n) ≡ 𝟘
  unfolding zeros
  last_zeros zero = refl
  last_zeros (suc zero) = refl
  last_zeros (suc (suc n)) = last_zeros (suc n)

  pub zero_polynomial : (n : ℕ) → IsPolynomial F n (λ Q. 𝟘)
  zero_polynomial n = record { poly = zeros n; long = length_zeros n; is = at }
    where
      at : (Q : Point A) → value F (zeros n) Q ≡ 𝟘
      at (fin t) = eval_zeros n t
      at inf = last_zeros n

  pub sum_polynomial : (n : ℕ) (k : A) (f g : Point A → A) → IsPolynomial F n f → IsPolynomial F n g → IsPolynomial F n (λ Q. k ⊗ f Q ⊕ g Q)
  sum_polynomial n k f g u v = record {
    poly = axpy k u.poly v.poly;
    long = length_axpy k u.poly v.poly (u.long ∙ sym v.long) ∙ u.long;
    is = λ Q. value_axpy k u.poly v.poly (u.long ∙ sym v.long) Q ∙ ap₂ (λ (x y : A). k ⊗ x ⊕ y) (u.is Q) (v.is Q);
  }

  -- two such functions that agree at n different points are equal
  pub agree : (n : ℕ) (f g : Point A → A) → IsPolynomial F n f → IsPolynomial F n g → (Rs : List (Point A)) → n ≤ length Rs → Distinct Rs
      → All (λ R. f R ≡ g R) Rs → (Q : Point A) → f Q ≡ g Q
  agree n f g u v Rs l d e Q =
      sym (fld.sub_eq_zero F (g Q) (f Q)
      (add_comm (g Q) (⊖ f Q) ∙ ap (λ (z : A). z ⊕ g Q) (minus (f Q)) ∙ sym (w.is Q)
      ∙ vanish Rs w.poly (subst (λ (m : ℕ). m ≤ length Rs) (sym w.long) l) d (zs Rs e) Q))
    where
      w : IsPolynomial F n (λ Q. ⊖ 𝟙 ⊗ f Q ⊕ g Q)
      w = sum_polynomial n (⊖ 𝟙) f g u v

      minus : (x : A) → ⊖ x ≡ ⊖ 𝟙 ⊗ x
      minus x = sym (mul_comm (⊖ 𝟙) x ∙ fld.mul_neg F x 𝟙 ∙ ap ⊖◌ (mul-one x))

      zs : (Rs : List (Point A)) → All (λ R. f R ≡ g R) Rs → All (λ R. value F w.poly R ≡ 𝟘) Rs
      zs [] e = tt
      zs (R ∷ Rs) e = (
        w.is R ∙ ap (λ (z : A). z ⊕ g R) (sym (minus (f R)) ∙ ap ⊖◌ e.0) ∙ fld.neg_add F (g R),
        zs Rs e.1,
      )

  pub same_polynomial : (n : ℕ) (f g : Point A → A) → IsPolynomial F n f → ((Q : Point A) → f Q ≡ g Q) → IsPolynomial F n g
  same_polynomial n f g u e = record { poly = u.poly; long = u.long; is = λ Q. u.is Q ∙ e Q }
