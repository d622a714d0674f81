-- `soundness::keys::place` meets its contract.
use Prim.Native.Nat.{ℕ, ◌*◌, ◌/◌, ◌%◌}
use mathlib.Core.Path.{ap}
use native.Mathlib.Nat.{mod-lt}
use borrow.Author.Rules.{rules}
use Rattle.soundness.specs.Keys.{place_of}
use Rattle.soundness.proofs.keys.place.Goals as goal

pub returns : goal.returns
unfolding place_of
returns c =
    (ap (λ (x : ℕ). x * 1640531527 / 2097152 % 2048) c.from.ensures, mod-lt (c.from.result * 1640531527 / 2097152) (search rules))
