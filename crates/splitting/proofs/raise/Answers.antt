-- `splitting::raise` meets its contract.
use mathlib.Core.Path.{refl}
use borrow.Author.Tests.{eqb-false}
use Rattle.std.proofs.lemmas.Result.{err_from_is_err_and}
use Rattle.refusal.specs.NumberLaws as law
use Rattle.model.specs.Perform.{granted_in}
use Rattle.model.specs.PerformLaws.{of_raise, refused, granted}
use Rattle.splitting.proofs.Rows.{raises}
use Rattle.splitting.proofs.raise.Goals as goal

pub returns-in_err-may_raise : goal.returns-in_err-may_raise
returns-in_err-may_raise c =
    let p = err_from_is_err_and c.from_residual.result c.from_residual.ensures.1 in
    rw (p.1, p.2) (refused _ of_raise refl c.in_err-may_raise.ensures (eqb-false _ 0 (law.refused _)))

pub raise_level-requires : goal.raise_level-requires
raise_level-requires c =
    raises _ c.in_ok-may_raise.ensures

pub returns : goal.returns
unfolding granted_in
returns c =
    granted _ of_raise refl c.in_ok-may_raise.ensures refl c.raise_level.ensures
