-- `soundness::keys::astray` meets its contract.
use mathlib.Core.Path.{ap, ◌∙◌}
use lib.Bits.{bit_and}
use lib.Dec.{eqb}
use Rattle.soundness.proofs.Joined.{xor_same}
use Rattle.soundness.proofs.Masks.{kept_bits}
use Rattle.soundness.proofs.keys.astray.Goals as goal

pub returns : goal.returns
returns c =
    let a = c.args in
    xor_same (bit_and c.folded.result a.mask) a.unit
    ∙ ap (λ x. eqb x a.unit) (kept_bits c.folded.result a.mask a.k c.requires c.folded.ensures)
