-- `splitting::states::mark` meets its contract.
use mathlib.Core.Path.{ap}
use Rattle.splitting.proofs.Places.{set_marks}
use Prim.Native.Nat.{◌+◌}
use Rattle.splitting.proofs.states.mark.Goals as goal

pub returns : goal.returns
returns c =
    set_marks c.args.s.now _ c.args.m c.args.u c.args.state c.requires.0 (ap (λ x. 8 + x) c.from.ensures) c.requires.1
