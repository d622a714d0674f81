-- `lookup::listed_rank` meets its contract.
use borrow.Author.Rules.{rules}
use Rattle.buffer.specs.Strided.{within_fewer}
use Rattle.lookup.specs.KeyLaws.{lists_known, listed_rank_found}
use Rattle.lookup.proofs.listed_rank.Goals as goal

pub find-requires : goal.find-requires
find-requires c =
    let p = c.requires in within_fewer (lists_known p.0 c.keys_of.ensures).within p.3

pub returns : goal.returns
returns c =
    let p = c.requires in
    (listed_rank_found (lists_known p.0 c.keys_of.ensures) _ _ _ p.2 c.find.ensures.0, search rules)
