-- `reading::list` meets its contract.
use Rattle.std.proofs.lemmas.Result.{err_from_is_err_and}
use Rattle.reading.proofs.Answers.{list_refused, list_granted}
use Rattle.reading.proofs.list.Goals as goal

pub returns-in_err-records : goal.returns-in_err-records
returns-in_err-records c =
    let p = err_from_is_err_and c.from_residual.result c.from_residual.ensures.1 in
    rw (p.1, p.2) (list_refused _ _ _ c.in_err-records.ensures)

pub returns : goal.returns
returns c =
    let found = c.in_ok-records.ensures in
    list_granted _ _ _ _ _ found.given found.store c.in_ok-records.records.counted c.write.ensures
