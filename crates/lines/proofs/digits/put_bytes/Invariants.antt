use Prim.Native.Nat.{ℕ, ◌*◌}
use mathlib.Core.List.{List}
use lib.ListN.{length}
use Rattle.buffer.specs.Bytes.{byte}
use Rattle.buffer.specs.LoopWrites.{Appending}
use Rattle.lines.specs.Digits.{hex}
use Rattle.lines.proofs.digits.put_bytes.Given as goal

abbrev pub pairs : List ℕ → ℕ → List ℕ
pairs s i = hex 2 (byte s i)

abbrev pub invariant-loop-i : goal.invariant-loop-i
invariant-loop-i l =
    Appending (pairs l.from) (length l.from) l.initial.into l.into l.i (2 * l.i)
