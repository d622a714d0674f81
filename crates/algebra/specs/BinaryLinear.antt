-- The product of binary polynomials is linear in each argument, whatever the width and the modulus.
-- A reader wants `product_add` and `add_product` (a product with a sum is the sum of the products), and `each_below`: what holds of 0, of the powers
-- of 2 below 2 ^ k and of sums holds of every number below 2 ^ k.
use Rattle.std.specs.Prelude.{◌≡◌, refl, ℕ, zero, suc, ◌+◌, ◌*◌, ◌/◌, ◌%◌, ◌^◌, ◌<◌}
use Rattle.std.proofs.Common.{sym, ap₂, ◌∙◌, subst, mul-zero, mul-one, zero-mul, add-zero, mod-lt, not-suc-le-zero, le_of_suc-le-suc, pow-suc, one-mul, div-lt_iff_lt-mul, mul_comm, arith, pow_pos, lit<}
use Rattle.std.proofs.Math.Path.{ap}
use Rattle.std.proofs.Math.Pow.{split}
use Rattle.std.specs.Int.Bits.{bit_xor, differ, xor_shifted, xor_self, xor_zero_r}
use Rattle.std.proofs.lemmas.Nat.{xor_block, xor_shr}
use Rattle.algebra.specs.Xor.{xor_half, xor_low, xor_swap, low_digit}
use Rattle.algebra.specs.Binary.{times, remainder, product_in}

-- ---- what holds of 0 and of each power of 2 below 2 ^ k, and of sums, holds below 2 ^ k
below_one : (x : ℕ) → x < 1 → x ≡ 0
below_one x h = omega arith

top_digit : (x k : ℕ) → x < 2 ^ suc k → x / 2 ^ k < 2
top_digit x k h = (div-lt_iff_lt-mul (pow_pos k)).1 (subst (λ (n : ℕ). x < n) (pow-suc 2 k ∙ mul_comm (2 ^ k) 2) h)

module _ (P : ℕ → Type 0) (none : P 0) (add : (x y : ℕ) → P x → P y → P (bit_xor x y)) where
  by_top : (k x t : ℕ) → t < 2 → t * 2 ^ k + x % 2 ^ k ≡ x → P (2 ^ k) → P (x % 2 ^ k) → P x
  by_top k x zero l e top rest = subst P (plus_zero (x % 2 ^ k) ∙ ap (λ (n : ℕ). n + x % 2 ^ k) (sym (zero-mul (2 ^ k))) ∙ e) rest
    where
      plus_zero : (n : ℕ) → n ≡ 0 + n
      plus_zero n = omega arith
  by_top k x (suc zero) l e top rest =
      subst P (xor_shifted 1 k (x % 2 ^ k) (mod-lt x (pow_pos k)) ∙ e)
      (add (1 * 2 ^ k) (x % 2 ^ k) (subst P (sym (one-mul (2 ^ k))) top) rest)
  by_top k x (suc (suc t)) l e top rest = absurd (not-suc-le-zero (le_of_suc-le-suc (le_of_suc-le-suc l)))

  pub each_below : (k : ℕ) → ((i : ℕ) → i < k → P (2 ^ i)) → (x : ℕ) → x < 2 ^ k → P x
  each_below zero b x h = subst P (sym (below_one x h)) none
  each_below (suc k) b x h =
      by_top k x (x / 2 ^ k) (top_digit x k h) (split x k) (b k (omega arith))
      (each_below k (λ i l. b i (omega arith)) (x % 2 ^ k) (mod-lt x (pow_pos k)))

-- ---- a multiple by a digit
digit_add : (a x y : ℕ) → x < 2 → y < 2 → a * differ x y ≡ bit_xor (a * x) (a * y)
digit_add a zero y hx hy = ap (λ (n : ℕ). bit_xor n (a * y)) (sym (mul-zero a))
digit_add a (suc zero) zero hx hy = sym (ap (bit_xor (a * 1)) (mul-zero a) ∙ xor_zero_r (a * 1))
digit_add a (suc zero) (suc zero) hx hy = mul-zero a ∙ sym (xor_self (a * 1))
digit_add a (suc zero) (suc (suc y)) hx hy = absurd (not-suc-le-zero (le_of_suc-le-suc (le_of_suc-le-suc hy)))
digit_add a (suc (suc x)) y hx hy = absurd (not-suc-le-zero (le_of_suc-le-suc (le_of_suc-le-suc hx)))

add_digit : (a b x : ℕ) → x < 2 → bit_xor a b * x ≡ bit_xor (a * x) (b * x)
add_digit a b zero hx = mul-zero (bit_xor a b) ∙ sym (ap₂ bit_xor (mul-zero a) (mul-zero b))
add_digit a b (suc zero) hx = mul-one (bit_xor a b) ∙ sym (ap₂ bit_xor (mul-one a) (mul-one b))
add_digit a b (suc (suc x)) hx = absurd (not-suc-le-zero (le_of_suc-le-suc (le_of_suc-le-suc hx)))

double_add : (a b : ℕ) → bit_xor a b * 2 ≡ bit_xor (a * 2) (b * 2)
double_add a b =
    sym (ap₂ bit_xor (sym (add-zero (a * 2))) (sym (add-zero (b * 2))) ∙ xor_block 1 a b 0 0 (lit< tt) (lit< tt) ∙ add-zero (bit_xor a b * 2))

pub times_add : (n a b c : ℕ) → times n a (bit_xor b c) ≡ bit_xor (times n a b) (times n a c)
unfolding times
times_add zero a b c = refl
times_add (suc n) a b c =
    ap₂ bit_xor (ap (λ (x : ℕ). a * x) (xor_low b c) ∙ digit_add a (b % 2) (c % 2) (low_digit b) (low_digit c))
    (ap (times n (a * 2)) (xor_half b c) ∙ times_add n (a * 2) (b / 2) (c / 2))
    ∙ xor_swap (a * (b % 2)) (a * (c % 2)) (times n (a * 2) (b / 2)) (times n (a * 2) (c / 2))

pub add_times : (n a b c : ℕ) → times n (bit_xor a b) c ≡ bit_xor (times n a c) (times n b c)
unfolding times
add_times zero a b c = refl
add_times (suc n) a b c =
    ap₂ bit_xor (add_digit a b (c % 2) (low_digit c)) (ap (λ (x : ℕ). times n x (c / 2)) (double_add a b) ∙ add_times n (a * 2) (b * 2) (c / 2))
    ∙ xor_swap (a * (c % 2)) (b * (c % 2)) (times n (a * 2) (c / 2)) (times n (b * 2) (c / 2))

pub remainder_add : (w m n x y : ℕ) → remainder w m n (bit_xor x y) ≡ bit_xor (remainder w m n x) (remainder w m n y)
unfolding remainder
remainder_add w m zero x y = refl
remainder_add w m (suc n) x y =
    ap (λ (z : ℕ). remainder w m n (bit_xor (bit_xor x y) z))
    (ap (λ (z : ℕ). m * 2 ^ n * z) (ap (λ (z : ℕ). z % 2) (xor_shr x y (w + n)) ∙ xor_low (x / 2 ^ (w + n)) (y / 2 ^ (w + n)))
    ∙ digit_add (m * 2 ^ n) (x / 2 ^ (w + n) % 2) (y / 2 ^ (w + n) % 2) (low_digit (x / 2 ^ (w + n))) (low_digit (y / 2 ^ (w + n))))
    ∙ ap (remainder w m n) (xor_swap x y (m * 2 ^ n * (x / 2 ^ (w + n) % 2)) (m * 2 ^ n * (y / 2 ^ (w + n) % 2)))
    ∙ remainder_add w m n (bit_xor x (m * 2 ^ n * (x / 2 ^ (w + n) % 2))) (bit_xor y (m * 2 ^ n * (y / 2 ^ (w + n) % 2)))

-- ---- the product
module _ (w m : ℕ) where
  pub product_add : (a b c : ℕ) → product_in w m a (bit_xor b c) ≡ bit_xor (product_in w m a b) (product_in w m a c)
  unfolding product_in
  product_add a b c = ap (remainder w m w) (times_add w a b c) ∙ remainder_add w m w (times w a b) (times w a c)

  pub add_product : (a b c : ℕ) → product_in w m (bit_xor a b) c ≡ bit_xor (product_in w m a c) (product_in w m b c)
  unfolding product_in
  add_product a b c = ap (remainder w m w) (add_times w a b c) ∙ remainder_add w m w (times w a c) (times w b c)

  pub product_zero : (a : ℕ) → product_in w m a 0 ≡ 0
  product_zero a = product_add a 0 0 ∙ xor_self (product_in w m a 0)

  pub zero_product : (a : ℕ) → product_in w m 0 a ≡ 0
  zero_product a = add_product 0 0 a ∙ xor_self (product_in w m 0 a)
