-- `field256::power` meets its contract: the constant is the list of powers, which the prover computes.
use mathlib.Core.Path.{refl, ◌∙◌}
use native.Mathlib.Nat.{mod-lt}
use lib.Dec.{lit<}
use Rattle.algebra.specs.Binary.{times, remainder, product_in}
use Rattle.algebra.specs.BinaryPowers.{doublings}
use Rattle.field256.specs.Powers.{powers}
use Rattle.field256.specs.PowersLaws.{power_mod, power_read}
use Rattle.field256.proofs.power.Goals as goal

pub returns : goal.returns
unfolding powers doublings product_in remainder times
returns c = power_read _ refl _ (mod-lt _ (lit< tt)) ∙ power_mod c.args.n
