-- The loop that writes the logarithm of each power at its place. A reader wants `Logging`, what holds at each turn: the first i powers have theirs; with
-- `logging_start`, `logging_turn` and `logging_end`.
use mathlib.Core.Path.{◌≡◌, sym, ap, ◌∙◌}
use mathlib.Core.List.{List}
use Prim.Native.Nat.{ℕ, suc, ◌+◌, ◌-◌, ◌≤◌, ◌<◌}
use native.Mathlib.Nat.{not-suc-le-zero}
use native.Mathlib.Omega.{arith}
use lib.ListN.{length, get_or, set, length-set}
use lib.Seq.{get_or-set_same, get_or-set_other}
use borrow.Author.Count.{below_more}
use Rattle.buffer.specs.RangeLaws.{entries_of}
use Rattle.field256.specs.Powers.{order, power, powers, logarithm, logarithms}
use Rattle.field256.specs.PowersLaws.{power_low, power_ne, power_read, power_log, log_low, log_power}

pub record Logging (l : List ℕ) (i : ℕ) : Type 0 where
  pub within : i ≤ order
  pub long : length l ≡ order
  pub logged : (k : ℕ) → k < i → (x : ℕ) → suc x ≡ power k → get_or l x 0 ≡ k

pub logging_start : {l : List ℕ} → length l ≡ order → Logging l 0
logging_start e = record { within = omega arith; long = e; logged = λ k h. absurd (not-suc-le-zero h) }

-- the place of a power: it is not 0
pub record Place (x v : ℕ) : Type 0 where
  pub is : suc x ≡ v
  pub fits : x < order

pub place_at : (l : List ℕ) → l ≡ powers → (i p : ℕ) → i < order → p ≡ get_or l i 0 → (0 < p) × Place (p - 1) (power i)
place_at l e i p h q =
    let v : p ≡ power i = q ∙ power_read l e i h in
    let low : power i < 256 = power_low i in
    let pos : p ≡ 0 → ⊥ = λ z. power_ne i (sym v ∙ z) in
    (omega arith, record { is = omega arith; fits = omega arith })

pub logging_turn : {l : List ℕ} {i x : ℕ} (v : ℕ) → Logging l i → i < order → Place x (power i) → v ≡ i → Logging (set l x v) (i + 1)
logging_turn {l} {i} {x} v g h p q =
    record {
      within = omega arith;
      long = length-set l x v ∙ g.long;
      logged = below_more (λ k. (y : ℕ) → suc y ≡ power k → get_or (set l x v) y 0 ≡ k) i earlier here;
    }
  where
    other : (k : ℕ) → k < i → (y : ℕ) → suc y ≡ power k → y ≡ x → ⊥
    other k l y e z =
        let same : k ≡ i = sym (log_power k (omega arith)) ∙ ap logarithm (sym e ∙ ap suc z ∙ p.is) ∙ log_power i h in
        omega arith

    earlier : (k : ℕ) → k < i → (y : ℕ) → suc y ≡ power k → get_or (set l x v) y 0 ≡ k
    earlier k m y e = get_or-set_other l x y v 0 (other k m y e) ∙ g.logged k m y e

    here : (y : ℕ) → suc y ≡ power i → get_or (set l x v) y 0 ≡ i
    here y e =
        let same : y ≡ x = omega (arith, p.is) in
        ap (λ (n : ℕ). get_or (set l x v) n 0) same ∙ get_or-set_same l x v 0 (omega (arith, g.long, p.fits)) ∙ q

pub logging_end : {l : List ℕ} {i : ℕ} → Logging l i → order ≤ i → l ≡ logarithms
unfolding logarithms
logging_end {l} {i} g h = entries_of l order (λ k. logarithm (suc k)) g.long at
  where
    some : (x : ℕ) → suc x ≡ 0 → ⊥
    some x e = omega arith

    at : (x : ℕ) → x < order → get_or l x 0 ≡ logarithm (suc x)
    at x b =
        let low : logarithm (suc x) < order = log_low (suc x) (omega arith) (some x) in
        g.logged (logarithm (suc x)) (omega arith) x (sym (power_log (suc x) (omega arith) (some x)))
