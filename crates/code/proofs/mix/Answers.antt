-- `code::mix` meets its contract: weights are below 16, and the sum of the scaled bytes is the definition's.
use mathlib.Core.Path.{◌∙◌}
use Rattle.code.proofs.Sums.{xor4, mixed_is}
use borrow.Author.Rules.{rules}
use Rattle.code.proofs.mix.Goals as goal

pub returns : goal.returns
returns c =
    xor4 c.scale.ensures c.scale-2.ensures c.scale-3.ensures c.scale-4.ensures
    ∙ mixed_is c.args.ws (search rules) c.args.ys (search rules)
