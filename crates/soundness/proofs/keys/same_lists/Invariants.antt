use Prim.Native.Nat.{ℕ, ◌+◌, ◌*◌}
use mathlib.Core.Bool.{Bool}
use mathlib.Core.List.{List}
use Rattle.buffer.specs.LoopTests.{Gathering}
use Rattle.group.specs.Widths.{check_bytes}
use Rattle.soundness.specs.Keys.{same_pair}
use Rattle.soundness.proofs.keys.same_lists.Given as goal

abbrev front : List ℕ → ℕ → ℕ → ℕ → Bool
front s x y i = same_pair s (x + check_bytes * i) (y + check_bytes * i)

abbrev back : List ℕ → ℕ → ℕ → ℕ → Bool
back s x y i = same_pair s (x + check_bytes * i + 8) (y + check_bytes * i + 8)

pub record Both (p q : ℕ → Bool) (b r first second : ℕ) : Type 0 where
  pub one : Gathering p b r first
  pub two : Gathering q b r second

abbrev pub invariant-loop-r : goal.invariant-loop-r
invariant-loop-r l =
    Both (front l.s l.x l.y) (back l.s l.x l.y) l.b l.r l.first l.second
