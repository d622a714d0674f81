-- `lookup::rank` meets its contract.
use borrow.Author.Rules.{rules}
use Rattle.lookup.specs.KeyLaws.{rank_found}
use Rattle.lookup.proofs.rank.Goals as goal

pub returns : goal.returns
returns c =
    (rank_found c.args.s.now c.args.u _ _ _ _ c.slot_at.ensures.0 c.find.ensures.0, search rules)
