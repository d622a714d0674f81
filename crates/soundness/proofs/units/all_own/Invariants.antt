use Prim.Native.Nat.{◌+◌, ◌/◌}
use Rattle.buffer.specs.Bytes.{byte}
use Rattle.buffer.specs.Range.{all}
use Rattle.buffer.specs.LoopTests.{Passing}
use Rattle.soundness.proofs.Together.{place_own}
use Rattle.soundness.proofs.units.all_own.Given as goal

abbrev pub invariant-loop-g : goal.invariant-loop-g
invariant-loop-g l =
    Passing (λ k. all 4 (place_own l.header.store.now k)) ((byte l.header.store.now 6 + 3) / 4) l.g
