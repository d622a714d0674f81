-- A loop that passes a test at each step up to an end: the place runs, and the rank is that of the place.
use mathlib.Core.Path.{◌≡◌, sym, ap, ◌∙◌}
use mathlib.Core.Bool.{Bool, true, false}
use Prim.Native.Nat.{ℕ, suc, ◌+◌, ◌*◌, ◌≤◌, ◌<◌}
use native.Mathlib.Nat.{mul-le-mul_left, mul-zero, mul-suc, mul-one, mul-add, add-zero, add_assoc}
use native.Mathlib.Omega.{arith}
use lib.Dec.{ltb}
use borrow.Author.Tests.{ltb-true, ltb-false}
use Rattle.buffer.specs.ChoiceLaws.{by-test}
use Rattle.buffer.specs.Range.{all}
use Rattle.buffer.specs.LoopTests.{Passing, passing_start, passing_turn, passing_fail, passing_end}

-- ---- the place of a rank: that of rank 0, that of the next one, and that a key fits there
pub at_start : (base step : ℕ) → base ≡ base + step * 0
at_start base step = sym (ap (λ (x : ℕ). base + x) (mul-zero step) ∙ add-zero base)

pub further : {p : ℕ} (base step r : ℕ) → p ≡ base + step * r → p + step ≡ base + step * (r + 1)
further {p} base step r e =
    let grown : step * r + step ≡ step * (r + 1) = ap (λ (x : ℕ). step * r + x) (sym (mul-one step)) ∙ sym (mul-add step r 1) in
    ap (λ (x : ℕ). x + step) e ∙ add_assoc base (step * r) step ∙ ap (λ (x : ℕ). base + x) grown

pub still_fits : {p x n : ℕ} → p ≡ x → x + 4 ≤ n → p + 4 ≤ n
still_fits {p} {x} {n} e h = rw e h

-- ---- the loop
pub record Stepping (p : ℕ → Bool) (n base step q : ℕ) : Type 0 where
  pub rank : ℕ
  pub at : q ≡ base + step * rank
  pub passing : Passing p n rank

pub stepping_start : {p : ℕ → Bool} {n base step : ℕ} → Stepping p n base step base
stepping_start {p} {n} {base} {step} = record { rank = 0; at = at_start base step; passing = passing_start }

module _ {p : ℕ → Bool} {n base step q end : ℕ} (g : Stepping p n base step q) (e : end ≡ base + step * n) (some : 1 ≤ step) where
  -- before the end there is a rank more
  pub rank_before_lem : q < end → g.rank < n
  rank_before_lem h =
      by-test (λ _. g.rank < n) (ltb g.rank n) (λ t. ltb-true g.rank n t)
      (λ t. absurd (beyond (step * n) (step * g.rank) (mul-le-mul_left step (ltb-false g.rank n t)) e g.at h))
    where
      beyond : (x y : ℕ) → x ≤ y → end ≡ base + x → q ≡ base + y → q < end → ⊥
      beyond x y l a b h = omega arith

  -- at the end there is none
  rank_end : end ≤ q → n ≤ g.rank
  rank_end h =
      by-test (λ _. n ≤ g.rank) (ltb g.rank n)
      (λ t.
      let long : step * suc g.rank ≤ step * n = mul-le-mul_left step (ltb-true g.rank n t) in
      absurd (short (step * g.rank) (step * suc g.rank) (step * n) (mul-suc step g.rank) long e g.at h))
      (λ t. ltb-false g.rank n t)
    where
      short : (x y z : ℕ) → y ≡ x + step → y ≤ z → end ≡ base + z → q ≡ base + x → end ≤ q → ⊥
      short x y z a l b d h = omega arith

  pub stepping_turn : q < end → p g.rank ≡ true → Stepping p n base step (q + step)
  stepping_turn h t = record { rank = g.rank + 1; at = further base step g.rank g.at; passing = passing_turn g.passing (rank_before_lem h) t }

  pub stepping_fail : q < end → p g.rank ≡ false → false ≡ all n p
  stepping_fail h t = passing_fail g.passing (rank_before_lem h) t

  pub stepping_end : end ≤ q → true ≡ all n p
  stepping_end h = passing_end g.passing (rank_end h)
