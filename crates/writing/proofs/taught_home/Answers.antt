-- `writing::taught_home` meets its contract.
use mathlib.Core.Path.{sym, ◌∙◌}
use borrow.Author.Tests.{le-leb, lt-leb}
use Rattle.std.proofs.lemmas.Result.{err_from_is_err_and}
use Rattle.model.specs.RowLaws.{row_holds, free_first}
use Rattle.writing.specs.Homes.{taught_rows}
use Rattle.writing.proofs.Granted.{untaught, at_first, then}
use Rattle.writing.proofs.taught_home.Goals as goal

pub returns-in_err-home-clause-number : goal.returns-in_err-home-clause-number
unfolding taught_rows
returns-in_err-home-clause-number c =
    let p = err_from_is_err_and c.from_residual.result c.from_residual.ensures.1 in
    rw (p.1, p.2) (at_first _ _ _ _ _ c.in_err-home.ensures.number)

pub returns-then-home-clause-number : goal.returns-then-home-clause-number
unfolding taught_rows
returns-then-home-clause-number c =
    sym (row_holds 6 _ (le-leb _ _ c.if-home.true)) ∙ then _ _ _ c.in_ok-home.ensures.number c.in_ok-home.ensures.place untaught

pub returns-clause-number : goal.returns-clause-number
unfolding taught_rows
returns-clause-number c =
    sym (free_first (untaught _ _) (lt-leb _ _ c.if-home.false, tt)) ∙ then _ _ _ c.in_ok-home.ensures.number c.in_ok-home.ensures.place untaught
