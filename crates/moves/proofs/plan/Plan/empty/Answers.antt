-- `Plan::empty` meets its contract.
use Rattle.std.specs.Prelude.{refl}
use Rattle.moves.specs.Moves.{no_move}
use Rattle.moves.specs.Drafts.{blank}
use Rattle.moves.specs.DraftLaws.{moves_none}
use Rattle.moves.proofs.plan.Plan.empty.Goals as goal

pub returns : goal.returns
unfolding blank no_move
returns c =
    let zero = c.default.ensures in
    (refl, rw (zero.0, zero.1.0, zero.1.1.0, zero.1.1.1), moves_none _ refl)
