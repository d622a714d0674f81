-- A sum of products by the binary digits of the weights, highest digit first (Horner's rule): the sum so far is doubled, and the values whose weight has
-- the digit are added. A reader wants `horner_step`; `horner_start` says what the sum is before the first digit.
use Rattle.std.specs.Prelude.{◌≡◌, refl, ℕ, zero, suc, ◌*◌, ◌/◌, ◌%◌, ◌^◌, ◌<◌}
use Rattle.std.proofs.Common.{sym, ap, ap₂, ◌∙◌, div-add-mod', mod-lt, zero-mul, one-mul, not-suc-le-zero, le_of_suc-le-suc, arith, lit<}
use Rattle.std.specs.Int.Bits.{bit_xor, xor_shifted, xor_zero_r}
use Rattle.algebra.specs.Xor.{xor_swap}
use Rattle.algebra.specs.XorSums.{total}
use Rattle.algebra.specs.BinaryLinear.{product_add, add_product, product_zero, zero_product}
use Rattle.algebra.specs.BinaryLaws.{assoc}
use Rattle.algebra.specs.BinaryPowers.{one_product}
use Rattle.field256.specs.Gf256.{product}
use Rattle.field256.specs.Gf256Laws.{tested}
use Rattle.field256.specs.PowersLaws.{double_is}

double_small : (u : ℕ) → u < 128 → product 2 u ≡ u * 2
double_small u h = sym (double_is u (omega arith)) ∙ ap₂ (λ (x y : ℕ). bit_xor (x * 2) (y * 29)) (low u h) (high u h) ∙ xor_zero_r (u * 2)
  where
    low : (u : ℕ) → u < 128 → u % 128 ≡ u
    low u h = omega arith

    high : (u : ℕ) → u < 128 → u / 128 ≡ 0
    high u h = omega arith

digit_product : (d y : ℕ) → d < 2 → y < 256 → product d y ≡ d * y
digit_product zero y hd hy = zero_product 8 285 y ∙ sym (zero-mul y)
digit_product (suc zero) y hd hy = one_product tested (lit< tt) y hy ∙ sym (one-mul y)
digit_product (suc (suc d)) y hd hy = absurd (not-suc-le-zero (le_of_suc-le-suc (le_of_suc-le-suc hd)))

-- one product
product_step : (v y : ℕ) → v < 256 → y < 256 → product v y ≡ bit_xor (product 2 (product (v / 2) y)) (v % 2 * y)
product_step v y hv hy =
    let hu : v / 2 < 128 = half v hv in
    ap (λ (x : ℕ). product x y) (sym (xor_shifted (v / 2) 1 (v % 2) (mod-lt v (lit< tt)) ∙ div-add-mod' v 2))
    ∙ add_product 8 285 (v / 2 * 2 ^ 1) (v % 2) y
    ∙ ap₂ bit_xor (ap (λ (x : ℕ). product x y) (sym (double_small (v / 2) hu)) ∙ assoc tested 2 (v / 2) y (lit< tt) (omega arith) hy)
    (digit_product (v % 2) y (mod-lt v (lit< tt)) hy)
  where
    half : (v : ℕ) → v < 256 → v / 2 < 128
    half v h = omega arith

pub horner_step : (n : ℕ) (v y : ℕ → ℕ) → ((k : ℕ) → k < n → v k < 256) → ((k : ℕ) → k < n → y k < 256)
    → bit_xor (product 2 (total n (λ k. product (v k / 2) (y k)))) (total n (λ k. v k % 2 * y k)) ≡ total n (λ k. product (v k) (y k))
unfolding total
horner_step zero v y hv hy = ap (λ (x : ℕ). bit_xor x 0) (product_zero 8 285 2)
horner_step (suc n) v y hv hy =
    let halves : ℕ = total n (λ k. product (v k / 2) (y k)) in
    let digits : ℕ = total n (λ k. v k % 2 * y k) in
    ap (λ (x : ℕ). bit_xor x (bit_xor digits (v n % 2 * y n))) (product_add 8 285 2 halves (product (v n / 2) (y n)))
    ∙ xor_swap (product 2 halves) (product 2 (product (v n / 2) (y n))) digits (v n % 2 * y n)
    ∙ ap₂ bit_xor (horner_step n v y (λ k l. hv k (omega arith)) (λ k l. hy k (omega arith)))
    (sym (product_step (v n) (y n) (hv n (omega arith)) (hy n (omega arith))))

-- before the first digit every weight counts as 0
pub horner_start : (n : ℕ) (w y : ℕ → ℕ) → ((k : ℕ) → k < n → w k < 256) → total n (λ k. product (w k / 2 ^ 8) (y k)) ≡ 0
unfolding total
horner_start zero w y h = refl
horner_start (suc n) w y h =
    ap₂ bit_xor (horner_start n w y (λ k l. h k (omega arith)))
    (ap (λ (x : ℕ). product x (y n)) (none (w n) (h n (omega arith))) ∙ zero_product 8 285 (y n))
  where
    none : (x : ℕ) → x < 256 → x / 256 ≡ 0
    none x h = omega arith
