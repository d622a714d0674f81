-- `group::next_serving` meets its contract.
use mathlib.Core.Bool.{Bool, true, false}
use mathlib.Core.Path.{◌≡◌, sym, ap, ◌∙◌}
use Prim.Native.Nat.{ℕ, ◌+◌, ◌-◌, ◌≤◌, ◌<◌}
use native.Mathlib.Omega.{arith}
use Rattle.buffer.specs.RangeLaws.{first_at, first_none}
use Rattle.group.specs.Members.{next}
use Rattle.group.proofs.next_serving.Goals as goal

next_at : (on : ℕ → Bool) (a m : ℕ) → a ≤ m → m < 7 → ((k : ℕ) → k < m → a ≤ k → on k ≡ false) → on m ≡ true → m ≡ next on a
unfolding next
next_at on a m h l missed held =
    let here : a + (m - a) ≡ m = omega arith in
    sym (ap (λ k. a + k) (first_at (7 - a) (λ k. on (a + k)) (m - a) (omega arith) (λ k q. missed (a + k) (omega arith) (omega arith)) (ap on here ∙ held))
    ∙ here)

next_none : (on : ℕ → Bool) (a m : ℕ) → a + (7 - a) ≡ m → ((k : ℕ) → k < 7 → a ≤ k → on k ≡ false) → m ≡ next on a
unfolding next
next_none on a m e missed =
    sym (ap (λ k. a + k) (first_none (7 - a) (λ k. on (a + k)) (λ k q. missed (a + k) (omega arith) (omega arith))) ∙ e)

pub returns-then-serving : goal.returns-then-serving
returns-then-serving c =
    (next_at _ _ _ (omega arith) (omega arith) c.loop-member.invariant (sym c.serving.ensures ∙ c.if-serving.true), omega arith)

pub returns : goal.returns
returns c =
    (next_none _ _ _ (omega arith) (λ k l h. c.loop-member.invariant k (omega arith) h), omega arith)
