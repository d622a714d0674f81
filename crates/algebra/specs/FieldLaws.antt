-- What follows from the laws of a field: cancelling, products with 𝟘, no divisors of 𝟘, quotients, terms and factors changing places.
use Rattle.std.specs.Prelude.{◌≡◌}
use Rattle.std.proofs.Common.{sym, ap, ap₂, ◌∙◌}
use Rattle.algebra.specs.Field.{Field}

module _ (F : Field) where
  open F use {A, 𝟘, 𝟙, add as ◌⊕◌, mul as ◌⊗◌, neg as ⊖◌, inv, add_assoc, add_comm, add-zero, add_neg, mul_assoc, mul_comm, mul-one, dist, mul_inv}

  infixl 60 ◌⊕◌
  infixl 70 ◌⊗◌
  infix 80 ⊖◌
  pub zero-add : (a : A) → 𝟘 ⊕ a ≡ a
  zero-add a = add_comm 𝟘 a ∙ add-zero a

  pub neg_add : (a : A) → ⊖ a ⊕ a ≡ 𝟘
  neg_add a = add_comm (⊖ a) a ∙ add_neg a

  pub one-mul : (a : A) → 𝟙 ⊗ a ≡ a
  one-mul a = mul_comm 𝟙 a ∙ mul-one a

  pub dist_r : (a b c : A) → (a ⊕ b) ⊗ c ≡ a ⊗ c ⊕ b ⊗ c
  dist_r a b c = mul_comm (a ⊕ b) c ∙ dist c a b ∙ ap₂ ◌⊕◌ (mul_comm c a) (mul_comm c b)

  -- cancelling
  pub add_sub : (a b : A) → a ⊕ b ⊕ ⊖ b ≡ a
  add_sub a b = add_assoc a b (⊖ b) ∙ ap (λ (x : A). a ⊕ x) (add_neg b) ∙ add-zero a

  pub sub_add : (a b : A) → a ⊕ ⊖ b ⊕ b ≡ a
  sub_add a b = add_assoc a (⊖ b) b ∙ ap (λ (x : A). a ⊕ x) (neg_add b) ∙ add-zero a

  pub add_cancel : (a b c : A) → a ⊕ c ≡ b ⊕ c → a ≡ b
  add_cancel a b c e = sym (add_sub a c) ∙ ap (λ (x : A). x ⊕ ⊖ c) e ∙ add_sub b c

  pub mul-zero : (a : A) → a ⊗ 𝟘 ≡ 𝟘
  mul-zero a =
      add_cancel (a ⊗ 𝟘) 𝟘 (a ⊗ 𝟘)
      (sym (dist a 𝟘 𝟘) ∙ ap (λ (x : A). a ⊗ x) (add-zero 𝟘) ∙ sym (zero-add (a ⊗ 𝟘)))

  pub zero-mul : (a : A) → 𝟘 ⊗ a ≡ 𝟘
  zero-mul a = mul_comm 𝟘 a ∙ mul-zero a

  pub sub_eq_zero : (a b : A) → a ⊕ ⊖ b ≡ 𝟘 → a ≡ b
  sub_eq_zero a b e = sym (sub_add a b) ∙ ap (λ (x : A). x ⊕ b) e ∙ zero-add b

  pub mul_neg : (a b : A) → a ⊗ ⊖ b ≡ ⊖ (a ⊗ b)
  mul_neg a b =
      add_cancel (a ⊗ ⊖ b) (⊖ (a ⊗ b)) (a ⊗ b)
      (sym (dist a (⊖ b) b) ∙ ap (λ (x : A). a ⊗ x) (neg_add b) ∙ mul-zero a ∙ sym (neg_add (a ⊗ b)))

  -- no zero divisors: a factor that is not 0 may be dropped
  pub factor_zero : (a b : A) → (a ≡ 𝟘 → ⊥) → a ⊗ b ≡ 𝟘 → b ≡ 𝟘
  factor_zero a b h e =
      sym (one-mul b) ∙ ap (λ (x : A). x ⊗ b) (sym (mul_inv a h) ∙ mul_comm a (inv a)) ∙ mul_assoc (inv a) a b
      ∙ ap (λ (x : A). inv a ⊗ x) e ∙ mul-zero (inv a)

  -- a product of factors that are not 0 is not 0
  pub mul_ne_zero : (a b : A) → (a ≡ 𝟘 → ⊥) → (b ≡ 𝟘 → ⊥) → a ⊗ b ≡ 𝟘 → ⊥
  mul_ne_zero a b ha hb e = hb (factor_zero a b ha e)

  -- a quotient, from a product
  pub quotient : (a b c : A) → (b ≡ 𝟘 → ⊥) → a ⊗ b ≡ c → a ≡ c ⊗ inv b
  quotient a b c h e = sym (ap (λ (x : A). x ⊗ inv b) (sym e) ∙ mul_assoc a b (inv b) ∙ ap (λ (x : A). a ⊗ x) (mul_inv b h) ∙ mul-one a)

  -- the middle two of four terms, or factors, change places
  pub add_swap : (a b c d : A) → a ⊕ b ⊕ (c ⊕ d) ≡ a ⊕ c ⊕ (b ⊕ d)
  add_swap a b c d =
      add_assoc a b (c ⊕ d)
      ∙ ap (λ (x : A). a ⊕ x) (sym (add_assoc b c d) ∙ ap (λ (x : A). x ⊕ d) (add_comm b c) ∙ add_assoc c b d)
      ∙ sym (add_assoc a c (b ⊕ d))

  pub mul_swap : (a b c : A) → a ⊗ (b ⊗ c) ≡ b ⊗ (a ⊗ c)
  mul_swap a b c = sym (mul_assoc a b c) ∙ ap (λ (x : A). x ⊗ c) (mul_comm a b) ∙ mul_assoc b a c
