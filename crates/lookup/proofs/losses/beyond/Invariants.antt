use Prim.Native.Nat.{◌+◌, ◌*◌}
use Rattle.buffer.specs.LoopTests.{Missing}
use Rattle.model.specs.Layout.{view}
use Rattle.model.specs.Reads.{keys_lost_in}
use Rattle.lookup.proofs.losses.beyond.Given as goal

abbrev pub invariant-loop-p : goal.invariant-loop-p
invariant-loop-p l =
    Missing (λ p. keys_lost_in (view l.s) (4 * l.g + p)) 4 l.p
