-- `code::gap` meets its contract: the sum of the columns where it stays in the field, else 1.
use mathlib.Core.Path.{sym}
use borrow.Author.Rules.{rules}
use Rattle.code.proofs.Differences.{gap_low, gap_one}
use Rattle.code.proofs.gap.Goals as goal

pub returns-then-d-lt16 : goal.returns-then-d-lt16
returns-then-d-lt16 c =
    (sym (gap_low c.args.a c.args.b (search rules) (search rules) (search rules)), search rules)

pub returns-else-d-lt16 : goal.returns-else-d-lt16
returns-else-d-lt16 c =
    (sym (gap_one c.args.a c.args.b (search rules) (search rules) (search rules)), search rules)
