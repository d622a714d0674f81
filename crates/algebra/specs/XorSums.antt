-- Sums by exclusive or over the numbers 0 to n - 1: sums in a binary field. A reader wants `total` and its laws.
use Rattle.std.specs.Prelude.{◌≡◌, refl, ℕ, zero, suc, ◌+◌, ◌≤◌, ◌<◌}
use Rattle.std.proofs.Common.{sym, ap, ap₂, ◌∙◌, add-zero, add-suc, add-one, arith}
use Rattle.std.specs.Int.Bits.{bit_xor, xor_zero_l, xor_zero_r}
use Rattle.algebra.specs.Xor.{xor_assoc}

-- the sum of f 0 to f (n - 1)
unfoldable pub total : ℕ → (ℕ → ℕ) → ℕ
total zero f = 0
total (suc n) f = bit_xor (total n f) (f n)

pub total_none : (f : ℕ → ℕ) → total 0 f ≡ 0
unfolding total
total_none f = refl

pub total_more : (f : ℕ → ℕ) (n : ℕ) → total (n + 1) f ≡ bit_xor (total n f) (f n)
unfolding total
total_more f n = rw add-one

pub total_ext : (n : ℕ) (f g : ℕ → ℕ) → ((k : ℕ) → k < n → f k ≡ g k) → total n f ≡ total n g
unfolding total
total_ext zero f g h = refl
total_ext (suc n) f g h = ap₂ bit_xor (total_ext n f g (λ k l. h k (omega arith))) (h n (omega arith))

-- the first term apart
pub total_front : (n : ℕ) (f : ℕ → ℕ) → total (suc n) f ≡ bit_xor (f 0) (total n (λ k. f (suc k)))
unfolding total
total_front zero f = xor_zero_l (f 0) ∙ sym (xor_zero_r (f 0))
total_front (suc n) f = ap (λ (x : ℕ). bit_xor x (f (suc n))) (total_front n f) ∙ xor_assoc (f 0) (total n (λ k. f (suc k))) (f (suc n))

-- four terms more
pub total_four : (f : ℕ → ℕ) (n : ℕ) → total (n + 4) f ≡ bit_xor (total n f) (bit_xor (bit_xor (f n) (f (n + 1))) (bit_xor (f (n + 2)) (f (n + 3))))
total_four f n =
    ap (λ (k : ℕ). total k f) (more n 3) ∙ total_more f (n + 3)
    ∙ ap (λ (x : ℕ). bit_xor x (f (n + 3))) (ap (λ (k : ℕ). total k f) (more n 2) ∙ total_more f (n + 2))
    ∙ xor_assoc (total (n + 2) f) (f (n + 2)) (f (n + 3))
    ∙ ap (λ (x : ℕ). bit_xor x (bit_xor (f (n + 2)) (f (n + 3))))
    (ap (λ (k : ℕ). total k f) (more n 1) ∙ total_more f (n + 1) ∙ ap (λ (x : ℕ). bit_xor x (f (n + 1))) (total_more f n) ∙ xor_assoc (total n f) (f n) (f (n + 1)))
    ∙ xor_assoc (total n f) (bit_xor (f n) (f (n + 1))) (bit_xor (f (n + 2)) (f (n + 3)))
  where
    more : (n d : ℕ) → n + suc d ≡ n + d + 1
    more n d = omega arith

-- terms that are 0 may be added
pub total_zeros : (n d : ℕ) (f : ℕ → ℕ) → ((k : ℕ) → n ≤ k → k < n + d → f k ≡ 0) → total (n + d) f ≡ total n f
unfolding total
total_zeros n zero f h = ap (λ (k : ℕ). total k f) (add-zero n)
total_zeros n (suc d) f h =
    ap (λ (k : ℕ). total k f) (add-suc n d) ∙ ap (bit_xor (total (n + d) f)) (h (n + d) (omega arith) (omega arith)) ∙ xor_zero_r (total (n + d) f)
    ∙ total_zeros n d f (λ k l m. h k l (omega arith))
