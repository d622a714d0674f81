-- `lookup::digits::folded` meets its contract.
use mathlib.Core.Path.{refl}
use Rattle.lookup.proofs.Nibbles.{folded_sum}
use Rattle.lookup.proofs.digits.folded.Goals as goal

pub returns : goal.returns
returns c =
    folded_sum c.args.key _ refl
