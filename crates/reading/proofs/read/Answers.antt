-- `reading::read` meets its contract.
use Rattle.std.proofs.Common.{arith}
use Rattle.std.proofs.lemmas.Result.{err_from_is_err_and}
use Rattle.reading.proofs.Answers.{read_refused, read_granted, field_is}
use Rattle.reading.proofs.read.Goals as goal

pub returns-in_err-place : goal.returns-in_err-place
returns-in_err-place c =
    let p = err_from_is_err_and c.from_residual.result c.from_residual.ensures.1 in
    rw (p.1, p.2) (read_refused _ _ _ _ c.in_err-place.ensures)

pub returns : goal.returns
returns c =
    let found = c.in_ok-place.ensures in
    read_granted _ _ _ _ found.given (field_is found.placed found.store c.copy_field.ensures) (omega arith)
