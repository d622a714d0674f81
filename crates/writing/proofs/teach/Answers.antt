-- `writing::teach` meets its contract.
use mathlib.Core.Path.{sym, ◌∙◌}
use borrow.Author.Tests.{eqb-true, lt-ltb, le-ltb, le-leb, lt-leb}
use Rattle.std.proofs.lemmas.Result.{err_from_is_err_and}
use Rattle.refusal.specs.declared.Refusal.TheVariants.{KeyTaught, NoRoom}
use Rattle.model.specs.RowLaws.{row_holds, row_fails, free_first}
use Rattle.writing.proofs.Granted.{of_teaching, turned_down, done, at_first, then, fitting, teaching, next_slot, taught}
use Rattle.writing.proofs.teach.Goals as goal

pub returns-in_err-home : goal.returns-in_err-home
returns-in_err-home c =
    let p = err_from_is_err_and c.from_residual.result c.from_residual.ensures.1 in
    rw (p.1, p.2) (turned_down (of_teaching c.args.s.now _ _) _ (at_first _ _ _ _ _ c.in_err-home.ensures.number))

pub returns-then-home : goal.returns-then-home
returns-then-home c =
    turned_down (of_teaching c.args.s.now _ _) KeyTaught
    (sym (row_holds 5 _ (lt-ltb _ _ c.if-home.true)) ∙ then _ _ _ c.in_ok-home.ensures.number c.in_ok-home.ensures.place (teaching c.args.s.now))

pub returns-then-s-home : goal.returns-then-s-home
returns-then-s-home c =
    turned_down (of_teaching c.args.s.now _ _) NoRoom
    (sym (row_fails 5 _ (le-ltb _ _ c.if-home.false) ∙ row_holds 7 _ (le-leb _ _ c.if-s-home.true))
    ∙ then _ _ _ c.in_ok-home.ensures.number c.in_ok-home.ensures.place (teaching c.args.s.now))

pub write_record-requires : goal.write_record-requires
write_record-requires c =
    (next_slot c.in_ok-home.ensures.place c.if-s-home.false, eqb-true _ _ (fitting _ _ _ c.in_ok-home.ensures.number))

pub returns : goal.returns
returns c =
    done (of_teaching c.args.s.now _ _)
    (sym (free_first (teaching c.args.s.now _ _) (le-ltb _ _ c.if-home.false, (lt-leb _ _ c.if-s-home.false, tt)))
    ∙ then _ _ _ c.in_ok-home.ensures.number c.in_ok-home.ensures.place (teaching c.args.s.now))
    (taught c.in_ok-home.ensures.place _ c.write_record.ensures)
