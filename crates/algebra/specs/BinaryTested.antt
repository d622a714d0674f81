-- What a width and a modulus must pass for the numbers below 2 ^ w to be a field: the laws at the powers of 2 alone, and a function of inverses at
-- every number. A reader wants `Tested`, from which BinaryField makes the field, and `inverse_in`, the inverse as a power.
use Rattle.std.specs.Prelude.{ℕ, zero, suc, pred, ◌^◌, ◌||◌, T, eqb, ltb}
use Rattle.algebra.specs.Every.{every}
use Rattle.algebra.specs.Binary.{product_in}

-- r times the powers of a with exponents 2, 4, .. 2 ^ n
unfoldable pub squares : ℕ → ℕ → ℕ → ℕ → ℕ → ℕ
squares w m zero a r = r
squares w m (suc n) a r = squares w m n (product_in w m a a) (product_in w m r (product_in w m a a))

-- the power of a with the exponent 2 ^ w - 2: the inverse of an a that is not 0, and 0 for 0
unfoldable pub inverse_in : ℕ → ℕ → ℕ → ℕ
inverse_in w m a = squares w m (pred w) a 1

-- what is computed of a width, a modulus and a function of inverses
pub record Tested (w m : ℕ) (inverse : ℕ → ℕ) : Type 0 where
  pub positive : T (ltb 1 (2 ^ w))
  pub bound : T (every w (λ i. every w (λ j. ltb (product_in w m (2 ^ i) (2 ^ j)) (2 ^ w))))
  pub one : T (every w (λ i. eqb (product_in w m (2 ^ i) 1) (2 ^ i)))
  pub comm : T (every w (λ i. every w (λ j. eqb (product_in w m (2 ^ i) (2 ^ j)) (product_in w m (2 ^ j) (2 ^ i)))))
  pub assoc : T (every w (λ i. every w (λ j. every w (λ k.
      eqb (product_in w m (product_in w m (2 ^ i) (2 ^ j)) (2 ^ k)) (product_in w m (2 ^ i) (product_in w m (2 ^ j) (2 ^ k)))))))
  pub inverse_bound : T (every (2 ^ w) (λ a. ltb (inverse a) (2 ^ w)))
  pub inverses : T (every (2 ^ w) (λ a. eqb a 0 || eqb (product_in w m a (inverse a)) 1))
