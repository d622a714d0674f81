-- `repairing::repair` meets its contract.
use Rattle.std.proofs.Common.{refl}
use borrow.Author.Tests.{eqb-false}
use Rattle.std.proofs.lemmas.Result.{err_from_is_err_and}
use Rattle.model.specs.Perform.{granted_in}
use Rattle.model.specs.PerformLaws.{of_repair, refused, granted}
use Rattle.refusal.specs.NumberLaws as refusal
use Rattle.repairing.proofs.repair.Goals as goal

pub returns-in_err-degraded : goal.returns-in_err-degraded
returns-in_err-degraded c =
    let p = err_from_is_err_and c.from_residual.result c.from_residual.ensures.1 in
    rw (p.1, p.2) (refused _ of_repair refl c.in_err-degraded.ensures (eqb-false _ 0 (refusal.refused _)))

pub returns : goal.returns
unfolding granted_in
returns c =
    let found = c.in_ok-degraded.ensures in
    granted _ of_repair refl found.given refl (rw found.group at c.repair_group.ensures)
