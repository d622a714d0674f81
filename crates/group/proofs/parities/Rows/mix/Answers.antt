-- `group::parities::Rows::mix` meets its contract.
use mathlib.Core.Path.{◌∙◌}
use borrow.Author.Rules.{rules}
use Rattle.group.proofs.ParitySums.{mixed}
use Rattle.group.proofs.parities.Rows.mix.Goals as goal

pub returns : goal.returns
returns c =
    let a = c.args in
    c.sum.ensures ∙ mixed a.a a.b a.c a.d (search rules)
