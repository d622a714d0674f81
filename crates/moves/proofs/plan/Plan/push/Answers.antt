-- `Plan::push` meets its contract.
use Rattle.std.specs.Prelude.{◌≡◌, length}
use Rattle.std.proofs.Common.{arith, sym, ◌∙◌, length-set}
use Rattle.std.proofs.lemmas.List.{take_more_set}
use Rattle.moves.specs.DraftLaws.{moves_take}
use Rattle.moves.proofs.plan.Plan.push.Goals as goal

pub returns-clause-moves : goal.returns-clause-moves
returns-clause-moves c =
    let p = c.args.self.now in
    let long : length p.moves ≡ 64 = omega arith in
    moves_take _ (length-set p.moves p.count c.args.last ∙ long)
    ∙ take_more_set p.moves p.count c.args.last (omega arith)
    ∙ sym (rw (moves_take p long))
