-- `splitting::grow` meets its contract.
use mathlib.Core.Path.{refl}
use borrow.Author.Tests.{eqb-false}
use Rattle.std.proofs.lemmas.Result.{err_from_is_err_and}
use Rattle.refusal.specs.NumberLaws as law
use Rattle.model.specs.Numbers.{number_in}
use Rattle.model.specs.PerformLaws.{of_grow, refused, granted}
use Rattle.splitting.proofs.grow.Goals as goal

pub returns-in_err-count : goal.returns-in_err-count
unfolding number_in
returns-in_err-count c =
    let p = err_from_is_err_and c.from_residual.result c.from_residual.ensures.1 in
    rw (p.1, p.2) (refused _ of_grow refl c.in_err-count.ensures.number (eqb-false _ 0 (law.refused _)))

pub returns : goal.returns
unfolding number_in
returns c =
    granted _ of_grow refl c.in_ok-count.ensures.number refl c.add_next.ensures
