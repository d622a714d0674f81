-- The laws of the product modulo m on the numbers below 2 ^ w, for any width w and modulus m that pass the test `Tested`: the product is linear in each
-- argument, so a law that holds at the powers of 2 holds at every number. Cited as `comm tested a b ha hb`.
use Rattle.std.specs.Prelude.{◌≡◌, ℕ, ◌^◌, ◌<◌, T, ltb, eqb, ◌||◌}
use Rattle.std.proofs.Common.{sym, ap, ap₂, ◌∙◌, subst, pow_pos, eqb→eq, ltb→lt}
use Rattle.std.specs.Int.Bits.{bit_xor}
use Rattle.std.proofs.lemmas.Nat.{xor_lt}
use Rattle.algebra.specs.Every.{every, every_at, either_second}
use Rattle.algebra.specs.Binary.{product_in}
use Rattle.algebra.specs.BinaryTested.{Tested}
use Rattle.algebra.specs.BinaryLinear.{each_below, product_add, add_product, product_zero, zero_product}

module _ {w m : ℕ} {inverse : ℕ → ℕ} (𝓣 : Tested w m inverse) where
  infixl 70 ◌*ₘ◌
  abbrev ◌*ₘ◌ : ℕ → ℕ → ℕ
  a *ₘ b = product_in w m a b

  pub bound : (a b : ℕ) → a < 2 ^ w → b < 2 ^ w → a *ₘ b < 2 ^ w
  bound a b ha hb =
      each_below (λ x. x *ₘ b < 2 ^ w) (subst (λ (n : ℕ). n < 2 ^ w) (sym (zero_product w m b)) (pow_pos w))
      (λ x y hx hy. subst (λ (n : ℕ). n < 2 ^ w) (sym (add_product w m x y b)) (xor_lt w (x *ₘ b) (y *ₘ b) hx hy))
      w
      (λ i hi. each_below (λ x. 2 ^ i *ₘ x < 2 ^ w) (subst (λ (n : ℕ). n < 2 ^ w) (sym (product_zero w m (2 ^ i))) (pow_pos w))
      (λ x y hx hy. subst (λ (n : ℕ). n < 2 ^ w) (sym (product_add w m (2 ^ i) x y)) (xor_lt w (2 ^ i *ₘ x) (2 ^ i *ₘ y) hx hy))
      w
      (λ j hj. ltb→lt (2 ^ i *ₘ 2 ^ j) (2 ^ w)
      (every_at w (λ y. ltb (2 ^ i *ₘ 2 ^ y) (2 ^ w)) (every_at w (λ x. every w (λ y. ltb (2 ^ x *ₘ 2 ^ y) (2 ^ w))) 𝓣.bound i hi) j hj))
      b hb)
      a ha

  pub one : (a : ℕ) → a < 2 ^ w → a *ₘ 1 ≡ a
  one a ha =
      each_below (λ x. x *ₘ 1 ≡ x) (zero_product w m 1) (λ x y hx hy. add_product w m x y 1 ∙ ap₂ bit_xor hx hy) w
      (λ i hi. eqb→eq (2 ^ i *ₘ 1) (2 ^ i) (every_at w (λ x. eqb (2 ^ x *ₘ 1) (2 ^ x)) 𝓣.one i hi)) a ha

  pub comm : (a b : ℕ) → a < 2 ^ w → b < 2 ^ w → a *ₘ b ≡ b *ₘ a
  comm a b ha hb =
      each_below (λ x. x *ₘ b ≡ b *ₘ x) (zero_product w m b ∙ sym (product_zero w m b))
      (λ x y hx hy. add_product w m x y b ∙ ap₂ bit_xor hx hy ∙ sym (product_add w m b x y))
      w
      (λ i hi. each_below (λ x. 2 ^ i *ₘ x ≡ x *ₘ 2 ^ i) (product_zero w m (2 ^ i) ∙ sym (zero_product w m (2 ^ i)))
      (λ x y hx hy. product_add w m (2 ^ i) x y ∙ ap₂ bit_xor hx hy ∙ sym (add_product w m x y (2 ^ i)))
      w
      (λ j hj. eqb→eq (2 ^ i *ₘ 2 ^ j) (2 ^ j *ₘ 2 ^ i)
      (every_at w (λ y. eqb (2 ^ i *ₘ 2 ^ y) (2 ^ y *ₘ 2 ^ i)) (every_at w (λ x. every w (λ y. eqb (2 ^ x *ₘ 2 ^ y) (2 ^ y *ₘ 2 ^ x))) 𝓣.comm i hi) j hj))
      b hb)
      a ha

  pub assoc : (a b c : ℕ) → a < 2 ^ w → b < 2 ^ w → c < 2 ^ w → a *ₘ b *ₘ c ≡ a *ₘ (b *ₘ c)
  assoc a b c ha hb hc =
      each_below (λ x. x *ₘ b *ₘ c ≡ x *ₘ (b *ₘ c))
      (ap (λ (n : ℕ). n *ₘ c) (zero_product w m b) ∙ zero_product w m c ∙ sym (zero_product w m (b *ₘ c)))
      (λ x y hx hy. ap (λ (n : ℕ). n *ₘ c) (add_product w m x y b) ∙ add_product w m (x *ₘ b) (y *ₘ b) c ∙ ap₂ bit_xor hx hy
      ∙ sym (add_product w m x y (b *ₘ c)))
      w
      (λ i hi. each_below (λ x. 2 ^ i *ₘ x *ₘ c ≡ 2 ^ i *ₘ (x *ₘ c))
      (ap (λ (n : ℕ). n *ₘ c) (product_zero w m (2 ^ i)) ∙ zero_product w m c
      ∙ sym (ap (λ (n : ℕ). 2 ^ i *ₘ n) (zero_product w m c) ∙ product_zero w m (2 ^ i)))
      (λ x y hx hy. ap (λ (n : ℕ). n *ₘ c) (product_add w m (2 ^ i) x y) ∙ add_product w m (2 ^ i *ₘ x) (2 ^ i *ₘ y) c ∙ ap₂ bit_xor hx hy
      ∙ sym (ap (λ (n : ℕ). 2 ^ i *ₘ n) (add_product w m x y c) ∙ product_add w m (2 ^ i) (x *ₘ c) (y *ₘ c)))
      w
      (λ j hj. each_below (λ x. 2 ^ i *ₘ 2 ^ j *ₘ x ≡ 2 ^ i *ₘ (2 ^ j *ₘ x))
      (product_zero w m (2 ^ i *ₘ 2 ^ j) ∙ sym (ap (λ (n : ℕ). 2 ^ i *ₘ n) (product_zero w m (2 ^ j)) ∙ product_zero w m (2 ^ i)))
      (λ x y hx hy. product_add w m (2 ^ i *ₘ 2 ^ j) x y ∙ ap₂ bit_xor hx hy
      ∙ sym (ap (λ (n : ℕ). 2 ^ i *ₘ n) (product_add w m (2 ^ j) x y) ∙ product_add w m (2 ^ i) (2 ^ j *ₘ x) (2 ^ j *ₘ y)))
      w
      (λ k hk. eqb→eq (2 ^ i *ₘ 2 ^ j *ₘ 2 ^ k) (2 ^ i *ₘ (2 ^ j *ₘ 2 ^ k))
      (every_at w (λ z. eqb (2 ^ i *ₘ 2 ^ j *ₘ 2 ^ z) (2 ^ i *ₘ (2 ^ j *ₘ 2 ^ z)))
      (every_at w (λ y. every w (λ z. eqb (2 ^ i *ₘ 2 ^ y *ₘ 2 ^ z) (2 ^ i *ₘ (2 ^ y *ₘ 2 ^ z))))
      (every_at w (λ x. every w (λ y. every w (λ z. eqb (2 ^ x *ₘ 2 ^ y *ₘ 2 ^ z) (2 ^ x *ₘ (2 ^ y *ₘ 2 ^ z))))) 𝓣.assoc i hi) j hj) k hk))
      c hc)
      b hb)
      a ha

  pub inverse_low : (a : ℕ) → a < 2 ^ w → T (ltb (inverse a) (2 ^ w))
  inverse_low a h = every_at (2 ^ w) (λ x. ltb (inverse x) (2 ^ w)) 𝓣.inverse_bound a h

  pub inverse_is : (a : ℕ) → a < 2 ^ w → (a ≡ 0 → ⊥) → a *ₘ inverse a ≡ 1
  inverse_is a h n =
      eqb→eq (a *ₘ inverse a) 1
      (either_second (eqb a 0) (eqb (a *ₘ inverse a) 1) (λ t. n (eqb→eq a 0 t))
      (every_at (2 ^ w) (λ x. eqb x 0 || eqb (x *ₘ inverse x) 1) 𝓣.inverses a h))
