-- `planning::commit` meets its contract.
use Rattle.std.proofs.Common.{sym, ◌∙◌}
use Rattle.std.proofs.lemmas.Result.{err_from_is_err_and}
use Rattle.planning.proofs.Strokes.{refused_number, commit_refused, not_agreed, grows, counts}
use Rattle.planning.proofs.commit.Goals as goal

pub returns-in_err-plan : goal.returns-in_err-plan
returns-in_err-plan c =
    let p = err_from_is_err_and c.from_residual.result c.from_residual.ensures.1 in
    rw (p.1, p.2) (commit_refused c.args.s.now c.args.list.now c.args.count c.in_err-plan.ensures.number (refused_number _))

pub returns-then-not-agree : goal.returns-then-not-agree
returns-then-not-agree c =
    let plan = c.in_ok-plan.ensures in
    not_agreed c.args.s.now c.args.list.now c.args.count (sym plan.number) (c.as_slice.ensures ∙ plan.plan) c.agree.ensures c.if-not-agree.true

pub add_next-requires : goal.add_next-requires
add_next-requires c =
    let plan = c.in_ok-plan.ensures in
    (sym plan.number, counts c.args.s.now _ plan.plan)

pub returns : goal.returns
returns c =
    let plan = c.in_ok-plan.ensures in
    grows c.args.s.now c.args.list.now c.args.count (sym plan.number) (c.as_slice.ensures ∙ plan.plan) c.agree.ensures c.if-not-agree.false c.add_next.ensures
