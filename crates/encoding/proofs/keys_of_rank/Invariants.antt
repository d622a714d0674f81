use Prim.Native.Nat.{ℕ, ◌+◌, ◌*◌}
use lib.ListN.{take}
use Rattle.buffer.specs.LoopWrites.{Appending}
use Rattle.group.specs.Widths.{key_bytes}
use Rattle.model.specs.Layout.{view}
use Rattle.encoding.proofs.keys_of_rank.Given as goal

abbrev pub invariant-loop-p : goal.invariant-loop-p
invariant-loop-p l =
    Appending (λ (k : ℕ). take key_bytes ((view l.s).slot (4 * l.g + k) l.r)) 4 l.initial.keys l.keys l.p (4 * l.p)
