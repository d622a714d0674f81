-- `splitting::raising::raise_level` meets its contract.
use mathlib.Core.Path.{refl}
use Rattle.splitting.proofs.Raised.{level_raised}
use Rattle.splitting.proofs.raising.raise_level.Goals as goal

pub returns : goal.returns
returns c =
    level_raised c.args.s.now _ _ _ _ c.requires.0 refl refl c.add_checks.ensures refl
