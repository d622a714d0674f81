-- `writing::correct` meets its contract.
use borrow.Author.Tests.{eqb-true}
use Rattle.std.proofs.lemmas.Result.{err_from_is_err_and}
use Rattle.writing.proofs.Granted.{of_correcting, turned_down, done, taught_fitting, listed, own_slot, corrected}
use Rattle.writing.proofs.correct.Goals as goal

pub returns-in_err-home : goal.returns-in_err-home
returns-in_err-home c =
    let p = err_from_is_err_and c.from_residual.result c.from_residual.ensures.1 in
    rw (p.1, p.2) (turned_down (of_correcting _ _ _) _ c.in_err-home.ensures.number)

pub write_record-requires : goal.write_record-requires
write_record-requires c =
    let found = c.in_ok-home.ensures in
    (own_slot found.place (listed _ _ _ found.number found.place), eqb-true _ _ (taught_fitting _ _ _ found.number))

pub returns : goal.returns
returns c =
    let found = c.in_ok-home.ensures in
    done (of_correcting _ _ _) found.number (corrected found.place _ c.write_record.ensures)
