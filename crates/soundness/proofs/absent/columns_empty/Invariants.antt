use Prim.Native.Nat.{◌*◌}
use Rattle.buffer.specs.Bytes.{byte}
use Rattle.soundness.specs.Pieces.{groups_in, none_behind}
use Rattle.soundness.proofs.Runs.{Behind}
use Rattle.soundness.proofs.absent.columns_empty.Given as goal

abbrev pub invariant-loop-u : goal.invariant-loop-u
invariant-loop-u l =
    let s = l.header.store.now in
    Behind (λ i. none_behind s i 0) (byte s 6) (4 * groups_in s) l.u
