use mathlib.Core.Bool.{false}
use mathlib.Core.Path.{◌≡◌}
use Prim.Native.Nat.{ℕ, ◌≤◌, ◌<◌}
use lib.Dec.{eqb}
use Rattle.buffer.specs.Bytes.{byte}
use Rattle.group.specs.Members.{serves}
use Rattle.group.proofs.next_serving.Given as goal

abbrev pub invariant-loop-member : goal.invariant-loop-member
invariant-loop-member l =
    (m : ℕ) → m < l.member → l.from ≤ m → serves (λ p. eqb (byte l.missing p) 1) (byte l.c) m ≡ false
