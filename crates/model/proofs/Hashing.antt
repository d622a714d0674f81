-- A key's unit is the one that linear hashing gives of its digit sum, for every number of units, and each unit has keys.
use Prim.Native.Nat.{ℕ, zero, suc, ◌+◌, ◌*◌, ◌^◌, ◌≤◌, ◌<◌}
use mathlib.Core.Path.{◌≡◌, refl, ap, ◌∙◌}
use mathlib.Core.Bool.{true}
use native.Mathlib.Nat.{not-suc-le-zero}
use native.Mathlib.Omega.{arith}
use lib.Dec.{eqb, ltb}
use lib.Pow.{pow-add, pow_mono}
use borrow.Author.Tests.{eqb-true, eqb-false, ltb-true, ltb-false}
use Rattle.buffer.specs.Choice.{pick}
use Rattle.buffer.specs.ChoiceLaws.{by-test, by-pick}
use Rattle.buffer.specs.Range.{all, sum}
use Rattle.buffer.specs.RangeLaws.{all_true}
use Rattle.model.specs.Units.{power_below, split_pointer, address, digit_sum, unit_of}
use Rattle.model.specs.Demand2.{LinearHashing, UnitsReached}
use Rattle.model.proofs.history.ledger.Power.{Power, power_of}

double : (j : ℕ) → 2 ^ (j + 1) ≡ 2 * 2 ^ j
double j = omega (arith, pow-add 2 j 1)

-- the exponents of the powers of two around m: a power up to m is not above one whose next power is above m
power_low : (i j m : ℕ) → 2 ^ i ≤ m → m < 2 ^ (j + 1) → i ≤ j
power_low i j m a b =
    by-test (λ _. i ≤ j) (ltb j i)
    (λ e. let l : j + 1 ≤ i = omega (arith, ltb-true j i e) in absurd (omega (arith, pow_mono l)))
    (λ e. ltb-false j i e)

pub linear_hashing : (m : ℕ) → 1 ≤ m → m ≤ 16 → LinearHashing m
unfolding unit_of address split_pointer
linear_hashing m some few =
    let q : Power m = power_of m some few in
    let above : m < 2 ^ (q.j + 1) = rw (double q.j) q.above in
    record {
      level = (q.j, q.below, above);
      unit = λ j a b k x e.
          let same : q.j ≡ j = omega (arith, power_low q.j j m q.below b, power_low j q.j m a above) in
          rw (e, q.power ∙ ap (λ i. 2 ^ i) same, double j);
    }

-- ---- every unit is reached
-- what a table over M = 1 to 16 and the units below M says of keys f 0, f 1, ..
tabled : (f : ℕ → ℕ) → all 16 (λ i. all (suc i) (λ u. eqb (unit_of (suc i) (f u)) u)) ≡ true
    → (m : ℕ) → 1 ≤ m → m ≤ 16 → (u : ℕ) → u < m → unit_of m (f u) ≡ u
tabled f e zero some few u h = absurd (not-suc-le-zero some)
tabled f e (suc i) some few u h =
    let row = all_true 16 (λ i. all (suc i) (λ u. eqb (unit_of (suc i) (f u)) u)) e i few in
    eqb-true _ _ (all_true (suc i) (λ u. eqb (unit_of (suc i) (f u)) u) row u h)

sixteens : (m : ℕ) → 1 ≤ m → m ≤ 16 → (u : ℕ) → u < m → unit_of m (16 * u) ≡ u
unfolding all sum pick unit_of digit_sum address power_below split_pointer
sixteens = tabled (λ u. 16 * u) refl

-- 0 is no key: unit 0 has the smallest one with digit sum 16
sample : ℕ → ℕ
sample u = pick (eqb u 0) 0x1F (16 * u)

sampled : (m : ℕ) → 1 ≤ m → m ≤ 16 → (u : ℕ) → u < m → unit_of m (sample u) ≡ u
unfolding all sum pick sample unit_of digit_sum address power_below split_pointer
sampled = tabled sample refl

sample_is_key : (u : ℕ) → u < 16 → (1 ≤ sample u) × (sample u < 4294967296)
unfolding sample
sample_is_key u h =
    by-pick (λ k. (1 ≤ k) × (k < 4294967296)) (eqb u 0) 0x1F (16 * u) (λ _. (omega arith, omega arith))
    (λ e. let some = eqb-false u 0 e in (omega arith, omega arith))

pub units_reached : (m : ℕ) → 1 ≤ m → m ≤ 16 → UnitsReached m
units_reached m some few =
    record {
      sixteens = sixteens m some few;
      has_key = λ u h.
          let key = sample_is_key u (omega arith) in
          (sample u, key.0, key.1, sampled m some few u h);
    }
