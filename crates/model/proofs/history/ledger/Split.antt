-- Linear hashing's split: with one unit more a key stays in its unit, or it leaves the split unit for the new one.
use Prim.Native.Nat.{ℕ, zero, suc, ◌+◌, ◌*◌, ◌-◌, ◌/◌, ◌%◌, ◌≤◌, ◌<◌}
use mathlib.Core.Path.{◌≡◌, refl, sym, ap, ◌∙◌}
use mathlib.Core.Logic.{◌⊎◌, inl, inr, ⊎_elim}
use mathlib.Core.Bool.{Bool, true, false, not}
use native.Mathlib.Omega.{arith}
use native.Mathlib.Nat.{mod-lt}
use lib.Arith.{mod-mul}
use lib.Dec.{eqb, ltb}
use borrow.Author.Tests.{lt-ltb, le-ltb, ltb-true, ltb-false, eqb-true, eq-eqb, ne_eqb}
use Rattle.buffer.specs.Choice.{pick}
use Rattle.buffer.specs.ChoiceLaws.{pick_true, pick-false}
use Rattle.model.specs.Units.{power_below, split_pointer, address, unit_of, moves}
use Rattle.model.specs.UnitLaws.{split_below, unit_below}
use Rattle.model.proofs.history.ledger.Power.{Power, power_of}

-- the bounds of 2^j
pub record Bounds (m : ℕ) : Type 0 where
  pub some : 1 ≤ power_below m
  pub below : power_below m ≤ m
  pub above : m < 2 * power_below m

pub bounds : (m : ℕ) → 1 ≤ m → m ≤ 16 → Bounds m
bounds m a b =
    let p : Power m = power_of m a b in
    record { some = omega arith; below = omega arith; above = omega arith }

split_whole : (m : ℕ) → 1 ≤ m → m ≤ 16 → power_below m + split_pointer m ≡ m
unfolding split_pointer
split_whole m a b = let p : Bounds m = bounds m a b in omega arith

-- ---- one split

-- the unit of a number with p + n units, n below p
unfoldable unit_at : ℕ → ℕ → ℕ → ℕ
unit_at p n k = pick (ltb (k % p) n) (k % (2 * p)) (k % p)

-- the next binary digit of a number is 0 or 1
double : (p k : ℕ) → 0 < p → (k % (2 * p) ≡ k % p) ⊎ (k % (2 * p) ≡ p + k % p)
double p k h = go (k / p % 2) refl
  where
    go : (b : ℕ) → k / p % 2 ≡ b → (k % (2 * p) ≡ k % p) ⊎ (k % (2 * p) ≡ p + k % p)
    go zero e =
        let m : k % (2 * p) ≡ k / p % 2 * p + k % p = mod-mul k {m = 2} {c = p} (omega arith) h in
        let z : k / p % 2 * p ≡ 0 * p = ap (λ (b : ℕ). b * p) e in
        inl (omega arith)
    go (suc zero) e =
        let m : k % (2 * p) ≡ k / p % 2 * p + k % p = mod-mul k {m = 2} {c = p} (omega arith) h in
        let z : k / p % 2 * p ≡ 1 * p = ap (λ (b : ℕ). b * p) e in
        inr (omega arith)
    go (suc (suc b)) e = absurd (omega arith)

-- one unit more: the number stays, or it leaves unit n for unit p + n
step : (p n k : ℕ) → 0 < p → (unit_at p (suc n) k ≡ unit_at p n k) ⊎ ((unit_at p n k ≡ n) × (unit_at p (suc n) k ≡ p + n))
unfolding unit_at pick
step p n k h = go (ltb (k % p) n) (ltb (k % p) (suc n)) refl refl
  where
    leaves : k % p ≡ n → (k % (2 * p) ≡ k % p) ⊎ (k % (2 * p) ≡ p + k % p) → (k % (2 * p) ≡ k % p) ⊎ ((k % p ≡ n) × (k % (2 * p) ≡ p + n))
    leaves r (inl d) = inl d
    leaves r (inr d) = inr (r, omega arith)

    go : (a b : Bool) → ltb (k % p) n ≡ a → ltb (k % p) (suc n) ≡ b
        → (pick b (k % (2 * p)) (k % p) ≡ pick a (k % (2 * p)) (k % p)) ⊎ ((pick a (k % (2 * p)) (k % p) ≡ n) × (pick b (k % (2 * p)) (k % p) ≡ p + n))
    go true true e f = inl refl
    go true false e f = absurd (omega (arith, ltb-true (k % p) n e, ltb-false (k % p) (suc n) f))
    go false true e f = leaves (omega (arith, ltb-false (k % p) n e, ltb-true (k % p) (suc n) f)) (double p k h)
    go false false e f = inl refl

-- all p units split is 2 p units with none split
full : (p k : ℕ) → 0 < p → unit_at p p k ≡ unit_at (2 * p) 0 k
unfolding unit_at
full p k h =
    pick_true (lt-ltb (k % p) p (mod-lt k h)) (k % (2 * p)) (k % p) ∙ sym (pick-false (le-ltb (k % (2 * p)) 0 (omega arith)) (k % (2 * (2 * p))) (k % (2 * p)))

module _ (m k : ℕ) (lo : 1 ≤ m) where
  at_now : address m k ≡ unit_at (power_below m) (split_pointer m) k
  unfolding address unit_at
  at_now = refl

  at_next : m ≤ 15 → address (suc m) k ≡ unit_at (power_below m) (suc (split_pointer m)) k
  unfolding address unit_at split_pointer
  at_next hi = go (eqb (suc m) (2 * power_below m)) refl
    where
      p : ℕ
      p = power_below m

      b : Bounds m
      b = bounds m lo (omega arith)

      next : power_below (suc m) ≡ pick (eqb (suc m) (2 * p)) (suc m) p
      next = (power_of m lo (omega arith)).next

      go : (t : Bool) → eqb (suc m) (2 * p) ≡ t → unit_at (power_below (suc m)) (suc m - power_below (suc m)) k ≡ unit_at p (suc (m - p)) k
      go true e =
          let same : suc m ≡ 2 * p = eqb-true (suc m) (2 * p) e in
          let now : power_below (suc m) ≡ 2 * p = next ∙ pick_true e (suc m) p ∙ same in
          let none : suc m - power_below (suc m) ≡ 0 = omega arith in
          let whole : p ≡ suc (m - p) = omega (arith, b) in
          rw (none, now) (sym (full p k b.some) ∙ ap (λ (n : ℕ). unit_at p n k) whole)
      go false e =
          let now : power_below (suc m) ≡ p = next ∙ pick-false e (suc m) p in
          let more : suc m - power_below (suc m) ≡ suc (m - p) = omega (arith, b) in
          rw (more, now) refl

-- THE SPLIT
address_grow : (m k : ℕ) → 1 ≤ m → m ≤ 15 → (address (suc m) k ≡ address m k) ⊎ ((address m k ≡ split_pointer m) × (address (suc m) k ≡ m))
address_grow m k lo hi = go (step (power_below m) (split_pointer m) k b.some)
  where
    b : Bounds m
    b = bounds m lo (omega arith)

    go : (unit_at (power_below m) (suc (split_pointer m)) k ≡ unit_at (power_below m) (split_pointer m) k)
        ⊎ ((unit_at (power_below m) (split_pointer m) k ≡ split_pointer m) × (unit_at (power_below m) (suc (split_pointer m)) k ≡ power_below m + split_pointer m))
        → (address (suc m) k ≡ address m k) ⊎ ((address m k ≡ split_pointer m) × (address (suc m) k ≡ m))
    go (inl s) = inl (at_next m k lo hi ∙ s ∙ sym (at_now m k lo))
    go (inr s) = inr (at_now m k lo ∙ s.0, at_next m k lo hi ∙ s.1 ∙ split_whole m lo (omega arith))

pub unit_of_grow : (m k : ℕ) → 1 ≤ m → m ≤ 15 → (unit_of (suc m) k ≡ unit_of m k) ⊎ ((unit_of m k ≡ split_pointer m) × (unit_of (suc m) k ≡ m))
unfolding unit_of
unit_of_grow m k lo hi = address_grow m _ lo hi

-- ---- what it says of a key of the split unit, and of any other; forwards for grow, backwards for shrink

module _ (m k : ℕ) (lo : 1 ≤ m) (hi : m ≤ 15) where
  -- a key of another unit keeps it
  pub other_key : (unit_of m k ≡ split_pointer m → ⊥) → unit_of (suc m) k ≡ unit_of m k
  other_key d = ⊎_elim (λ e. e) (λ e. absurd (d e.0)) (unit_of_grow m k lo hi)

  -- a key of the split unit stays there or goes to the new one
  pub split_key : unit_of m k ≡ split_pointer m → (unit_of (suc m) k ≡ split_pointer m) ⊎ (unit_of (suc m) k ≡ m)
  split_key n = ⊎_elim (λ e. inl (e ∙ n)) (λ e. inr e.1) (unit_of_grow m k lo hi)

  -- so what does not move to the new unit is dealt to the split one
  pub not_moves : unit_of m k ≡ split_pointer m → not (moves m k) ≡ eqb (unit_of (suc m) k) (split_pointer m)
  unfolding moves
  not_moves n = ⊎_elim
      (λ e. rw (ne_eqb (unit_of (suc m) k) m (λ f. apart (sym e ∙ f)), eq-eqb (unit_of (suc m) k) (split_pointer m) e))
      (λ e. rw (eq-eqb (unit_of (suc m) k) m e, ne_eqb (unit_of (suc m) k) (split_pointer m) (λ f. apart (sym f ∙ e))))
      (split_key n)
    where
      apart : split_pointer m ≡ m → ⊥
      apart e = omega (arith, split_below m lo)

  -- a key of the new unit came from the split one, and a key of any other unit was there before
  pub new_key : unit_of (suc m) k ≡ m → unit_of m k ≡ split_pointer m
  new_key n = ⊎_elim (λ e. absurd (omega (arith, unit_below m k lo))) (λ e. e.0) (unit_of_grow m k lo hi)

  pub old_key : (unit_of (suc m) k ≡ m → ⊥) → unit_of m k ≡ unit_of (suc m) k
  old_key d = ⊎_elim (λ e. sym e) (λ e. absurd (d e.1)) (unit_of_grow m k lo hi)
