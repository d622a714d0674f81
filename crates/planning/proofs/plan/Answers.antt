-- `planning::plan` meets its contract: the plan is made by value, and written to the list by `fill`.
use Rattle.std.proofs.Common.{sym, ◌∙◌}
use Rattle.std.proofs.lemmas.Result.{err_from_is_err_and}
use Rattle.planning.proofs.Strokes.{refused_number, plan_refused, plan_given}
use Rattle.planning.proofs.plan.Goals as goal

pub returns-in_err-drafted : goal.returns-in_err-drafted
returns-in_err-drafted c =
    let p = err_from_is_err_and c.from_residual.result c.from_residual.ensures.1 in
    rw (p.1, p.2) (plan_refused c.args.s.now c.args.list.now c.in_err-drafted.ensures.number (refused_number _))

pub returns : goal.returns
returns c =
    let plan = c.in_ok-drafted.ensures in
    plan_given c.args.s.now c.args.list.now (sym plan.number) (c.as_slice.ensures ∙ plan.plan) c.fill.ensures.answer c.fill.ensures.list
