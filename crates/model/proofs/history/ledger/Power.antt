-- The largest power of two up to M, and with a unit more: a table over M = 1 to 16, computed.
use Prim.Native.Nat.{ℕ, zero, suc, ◌*◌, ◌^◌, ◌≤◌, ◌<◌}
use mathlib.Core.Path.{◌≡◌, refl}
use mathlib.Core.List.{List, [], ◌∷◌}
use mathlib.Core.Bool.{Bool, true, ◌&&◌}
use native.Mathlib.Nat.{not-suc-le-zero}
use lib.Dec.{eqb, ltb, leb}
use borrow.Author.Tests.{eqb-true, ltb-true, leb-true}
use Rattle.buffer.specs.Choice.{pick}
use Rattle.buffer.specs.Range.{all, first}
use Rattle.buffer.specs.RangeLaws.{all_true}
use Rattle.buffer.specs.TestLaws.{and_first, and_second}
use Rattle.model.specs.Units.{power_below}

-- 2^j is the largest power of two up to m; with a unit more the power is the same, or m + 1 is the next one
pub record Power (m : ℕ) : Type 0 where
  pub j : ℕ
  pub power : power_below m ≡ 2 ^ j
  pub below : 2 ^ j ≤ m
  pub above : m < 2 * 2 ^ j
  pub next : power_below (suc m) ≡ pick (eqb (suc m) (2 * power_below m)) (suc m) (power_below m)

exponent : ℕ → ℕ
exponent m = first 5 (λ j. ltb m (2 * 2 ^ j))

powers : ℕ → List Bool
powers m =
    eqb (power_below m) (2 ^ exponent m)
    ∷ leb (2 ^ exponent m) m
    ∷ ltb m (2 * 2 ^ exponent m)
    ∷ eqb (power_below (suc m)) (pick (eqb (suc m) (2 * power_below m)) (suc m) (power_below m))
    ∷ []

-- all tests of a list hold
all_of : List Bool → Bool
all_of [] = true
all_of (t ∷ ts) = t && all_of ts

table : all 16 (λ i. all_of (powers (suc i))) ≡ true
unfolding all first pick power_below all_of powers exponent
table = refl

abbrev Held : List Bool → Type 0
Held [] = Unit {0}
Held (t ∷ ts) = (t ≡ true) × Held ts

all_held : (ts : List Bool) → all_of ts ≡ true → Held ts
unfolding all_of
all_held [] e = tt
all_held (t ∷ ts) e = (and_first t (all_of ts) e, all_held ts (and_second t (all_of ts) e))

pub power_of : (m : ℕ) → 1 ≤ m → m ≤ 16 → Power m
unfolding powers
power_of zero a b = absurd (not-suc-le-zero a)
power_of (suc i) a b =
    let t = all_held (powers (suc i)) (all_true 16 (λ i. all_of (powers (suc i))) table i b) in
    record {
      j = exponent (suc i);
      power = eqb-true _ _ t.0;
      below = leb-true _ _ t.1.0;
      above = ltb-true _ _ t.1.1.0;
      next = eqb-true _ _ t.1.1.1.0;
    }
