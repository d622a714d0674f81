-- `field256::twice` meets its contract.
use borrow.Author.Rules.{rules}
use Rattle.field256.specs.PowersLaws.{double_is}
use Rattle.field256.proofs.twice.Goals as goal

pub returns : goal.returns
returns c =
    double_is c.args.x (search rules)
