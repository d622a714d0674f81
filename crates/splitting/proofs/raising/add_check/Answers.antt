-- `splitting::raising::add_check` meets its contract.
use Prim.Native.Nat.{◌+◌}
use mathlib.Core.Path.{refl, ap}
use Rattle.splitting.proofs.Raised.{unit_added}
use Rattle.splitting.proofs.raising.add_check.Goals as goal

pub returns : goal.returns
returns c =
    unit_added c.args.s.now _ _ _ c.args.c c.requires.0 c.requires.1 (ap (λ x. 24 + x) c.from.ensures) c.make_unit.ensures refl
