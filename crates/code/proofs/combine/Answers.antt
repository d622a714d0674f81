-- `code::combine` meets its contract: weights and symbols are below 16, and the sum of the products is the definition's.
use mathlib.Core.Path.{◌∙◌, sym, subst}
use Prim.Native.Nat.{ℕ, ◌<◌}
use Rattle.code.proofs.WeightsLaws.{combination_bound}
use Rattle.code.proofs.Sums.{xor4, combination_is}
use borrow.Author.Rules.{rules}
use Rattle.code.proofs.combine.Goals as goal

pub returns : goal.returns
returns c =
    let e =
    xor4 c.mul.ensures.0 c.mul-2.ensures.0 c.mul-3.ensures.0 c.mul-4.ensures.0
    ∙ combination_is c.args.ws (search rules) c.args.ys (search rules) in (
      e,
      subst (λ (n : ℕ). n < 16) (sym e)
          (combination_bound c.args.ws c.args.ys
          c.requires.0
          c.requires.1),
    )
