-- What holds at each turn of a loop that tests n to b - 1 and stops where the test fails.
use mathlib.Core.Path.{◌≡◌, ap}
use mathlib.Core.Bool.{Bool, true, false, ◌||◌}
use Prim.Native.Nat.{ℕ, ◌+◌, ◌≤◌, ◌<◌}
use native.Mathlib.Omega.{arith}
use lib.Dec.{ltb}
use borrow.Author.Tests.{lt-ltb, le-ltb}
use Rattle.buffer.specs.Range.{all}
use Rattle.buffer.specs.RangeLaws.{all_holds}
use Rattle.buffer.specs.LoopTests.{Passing, passing_turn, passing_fail}

pub record Behind (p : ℕ → Bool) (n b r : ℕ) : Type 0 where
  pub behind : n ≤ r
  pub passing : Passing (λ i. ltb i n || p i) b r

pub behind_start : {p : ℕ → Bool} {n b : ℕ} → n ≤ b → Behind p n b n
behind_start {p} {n} {b} h =
    record {
      behind = omega arith;
      passing = record { within = h; passed = all_holds n (λ i. ltb i n || p i) (λ k l. ap (λ t. t || p k) (lt-ltb k n l)) };
    }

at : {p : ℕ → Bool} {n b r : ℕ} {t : Bool} → Behind p n b r → p r ≡ t → (ltb r n || p r) ≡ t
at {p} {n} {b} {r} g e = rw (le-ltb r n g.behind) e

pub behind_turn : {p : ℕ → Bool} {n b r : ℕ} → Behind p n b r → r < b → p r ≡ true → Behind p n b (r + 1)
behind_turn g h e = record { behind = omega arith; passing = passing_turn g.passing h (at g e) }

pub behind_fail : {p : ℕ → Bool} {n b r : ℕ} → Behind p n b r → r < b → p r ≡ false → false ≡ all b (λ i. ltb i n || p i)
behind_fail g h e = passing_fail g.passing h (at g e)
