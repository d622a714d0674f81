-- `writing::unit_out` meets its contract.
use Rattle.std.proofs.lemmas.Result.{err_from_is_err_and}
use Rattle.writing.proofs.Granted.{of_losing, turned_down, done, loses, lost}
use Rattle.writing.proofs.unit_out.Goals as goal

pub returns-in_err-unit_to_lose : goal.returns-in_err-unit_to_lose
returns-in_err-unit_to_lose c =
    let p = err_from_is_err_and c.from_residual.result c.from_residual.ensures.1 in
    rw (p.1, p.2) (turned_down (of_losing _ _) _ c.in_err-unit_to_lose.ensures.number)

pub clear_unit-requires : goal.clear_unit-requires
clear_unit-requires c =
    let found = c.in_ok-unit_to_lose.ensures in
    let g = loses _ _ found.number in
    (g.sized.long, rw found.same g.unit)

pub returns : goal.returns
returns c =
    let found = c.in_ok-unit_to_lose.ensures in
    done (of_losing _ _) found.number (lost _ _ _ _ found.same c.clear_unit.ensures)
