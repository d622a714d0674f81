use Prim.Native.Nat.{ℕ, ◌*◌}
use mathlib.Core.List.{List}
use Rattle.buffer.specs.Bytes.{byte, part}
use Rattle.buffer.specs.LoopWrites.{FillingFrom}
use Rattle.group.specs.Widths.{field_bytes}
use Rattle.group.specs.Parity.{parity}
use Rattle.group.specs.Four.{four_bodies}
use Rattle.group.proofs.parities.Rows.write_first.Given as goal

-- the parity that is written
abbrev written : List ℕ → ℕ → ℕ → ℕ → ℕ → List ℕ
written s a b c d = parity 0 (four_bodies (part a field_bytes s) (part b field_bytes s) (part c field_bytes s) (part d field_bytes s))

abbrev pub invariant-loop-k : goal.invariant-loop-k
invariant-loop-k l =
    FillingFrom (byte (written l.initial.s l.a l.b l.c l.d)) l.to l.initial.s l.s (4 * l.k)
