-- The numbers below 2 ^ w, with `bit_xor` and the product modulo m, are a field, for any w and m that pass the test `Tested`.
-- A reader wants `Below w`, the numbers below 2 ^ w, and `field_of tested`, the field. The number of a sum or a product is the sum or product of the
-- numbers, by computation.
use Rattle.std.specs.Prelude.{◌≡◌, ℕ, ◌^◌, ◌<◌, T, ltb}
use Rattle.std.proofs.Common.{ap, arith, pow_pos, ltb→lt, lt→ltb}
use mathlib.Core.HLevel.{Σ_prop_path}
use Rattle.std.specs.Int.Bits.{bit_xor, xor_self, xor_zero_r}
use Rattle.std.proofs.lemmas.Nat.{xor_lt, xor_comm}
use Rattle.std.proofs.Math.Dec.{T_prop}
use Rattle.algebra.specs.Field.{Field}
use Rattle.algebra.specs.Xor.{xor_assoc}
use Rattle.algebra.specs.Binary.{product_in}
use Rattle.algebra.specs.BinaryTested.{Tested}
use Rattle.algebra.specs.BinaryLinear.{product_add}
use Rattle.algebra.specs.BinaryLaws.{bound, one, comm, assoc, inverse_low, inverse_is}

abbrev pub Below : ℕ → Type 0
Below w = (n : ℕ) × T (ltb n (2 ^ w))

pub below_is : (w : ℕ) (a b : Below w) → a.0 ≡ b.0 → a ≡ b
below_is w a b e = Σ_prop_path (λ n. T_prop (ltb n (2 ^ w))) e

pub below : (w : ℕ) (a : Below w) → a.0 < 2 ^ w
below w a = ltb→lt a.0 (2 ^ w) a.1

-- the bounds are shut, so that what computes with elements computes numbers alone
pub sum_low : (w : ℕ) (a b : Below w) → T (ltb (bit_xor a.0 b.0) (2 ^ w))
sum_low w a b = lt→ltb (bit_xor a.0 b.0) (2 ^ w) (xor_lt w a.0 b.0 (below w a) (below w b))

pub zero_low : (w : ℕ) → T (ltb 0 (2 ^ w))
zero_low w = lt→ltb 0 (2 ^ w) (pow_pos w)

abbrev pub sum : (w : ℕ) → Below w → Below w → Below w
sum w a b = (bit_xor a.0 b.0, sum_low w a b)

pub one_zero : ◌≡◌ {A = ℕ} 1 0 → ⊥
one_zero e = omega arith

module _ {w m : ℕ} {inverse : ℕ → ℕ} (𝓣 : Tested w m inverse) where
  pub prod_low : (a b : Below w) → T (ltb (product_in w m a.0 b.0) (2 ^ w))
  prod_low a b = lt→ltb (product_in w m a.0 b.0) (2 ^ w) (bound 𝓣 a.0 b.0 (below w a) (below w b))

  pub recip_low : (a : Below w) → T (ltb (inverse a.0) (2 ^ w))
  recip_low a = inverse_low 𝓣 a.0 (below w a)

  abbrev pub prod : Below w → Below w → Below w
  prod a b = (product_in w m a.0 b.0, prod_low a b)

  abbrev pub recip : Below w → Below w
  recip a = (inverse a.0, recip_low a)

  abbrev pub nought : Below w
  nought = (0, zero_low w)

  abbrev pub unit : Below w
  unit = (1, 𝓣.positive)

  abbrev pub field_of : Field
  field_of = record {
    A = Below w;
    𝟘 = nought;
    𝟙 = unit;
    add = sum w;
    mul = prod;
    neg = λ a. a;
    inv = recip;
    add_assoc = λ a b c. below_is w (sum w (sum w a b) c) (sum w a (sum w b c)) (xor_assoc a.0 b.0 c.0);
    add_comm = λ a b. below_is w (sum w a b) (sum w b a) (xor_comm a.0 b.0);
    add-zero = λ a. below_is w (sum w a nought) a (xor_zero_r a.0);
    add_neg = λ a. below_is w (sum w a a) nought (xor_self a.0);
    mul_assoc = λ a b c. below_is w (prod (prod a b) c) (prod a (prod b c)) (assoc 𝓣 a.0 b.0 c.0 (below w a) (below w b) (below w c));
    mul_comm = λ a b. below_is w (prod a b) (prod b a) (comm 𝓣 a.0 b.0 (below w a) (below w b));
    mul-one = λ a. below_is w (prod a unit) a (one 𝓣 a.0 (below w a));
    dist = λ a b c. below_is w (prod a (sum w b c)) (sum w (prod a b) (prod a c)) (product_add w m a.0 b.0 c.0);
    mul_inv = λ a h. below_is w (prod a (recip a)) unit (inverse_is 𝓣 a.0 (below w a) (λ e. h (below_is w a nought e)));
    one_ne_zero = λ e. one_zero (ap (λ (a : Below w). a.0) e);
  }
