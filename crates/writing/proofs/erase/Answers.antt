-- `writing::erase` meets its contract.
use native.Mathlib.Omega.{arith}
use Rattle.std.proofs.lemmas.Result.{err_from_is_err_and}
use Rattle.writing.proofs.Granted.{of_erasing, turned_down, done, listed, own_slot, last_slot, removed}
use Rattle.writing.proofs.erase.Goals as goal

pub returns-in_err-home : goal.returns-in_err-home
returns-in_err-home c =
    let p = err_from_is_err_and c.from_residual.result c.from_residual.ensures.1 in
    rw (p.1, p.2) (turned_down (of_erasing _ _) _ c.in_err-home.ensures.number)

pub overflow_sub-home : goal.overflow_sub-home
overflow_sub-home c =
    omega (arith, listed _ _ _ c.in_ok-home.ensures.number c.in_ok-home.ensures.place)

pub erase_at-requires : goal.erase_at-requires
erase_at-requires c =
    let found = c.in_ok-home.ensures in
    (own_slot found.place (listed _ _ _ found.number found.place), last_slot found.place (listed _ _ _ found.number found.place))

pub returns : goal.returns
returns c =
    let found = c.in_ok-home.ensures in
    done (of_erasing _ _) found.number (removed found.place c.erase_at.ensures)
