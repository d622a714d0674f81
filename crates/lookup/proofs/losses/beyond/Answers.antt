-- `lookup::losses::beyond` meets its contract.
use mathlib.Core.Path.{sym, ◌∙◌}
use native.Mathlib.Omega.{arith}
use Rattle.model.specs.Layout.{view}
use Rattle.model.proofs.LossLaws.{none_out_near}
use Rattle.lookup.specs.GroupLaws.{beyond_lost, beyond_rank}
use Rattle.lookup.proofs.losses.beyond.Goals as goal

pub returns-then-outs-eq0 : goal.returns-then-outs-eq0
returns-then-outs-eq0 c =
    sym (none_out_near (view c.args.s.now) c.args.g (sym c.requires.2 ∙ c.if-outs-eq0.true))

pub returns-then-keys_lost : goal.returns-then-keys_lost
returns-then-keys_lost c =
    beyond_lost c.args.s.now c.args.g c.loop-p.p c.loop-p-test.true (sym c.keys_lost.ensures ∙ c.if-keys_lost.true)

pub returns : goal.returns
returns c =
    let kept = c.loop-p.invariant.missed in
    beyond_rank c.requires.0 c.args.g (λ p l. kept p (omega (arith, c.loop-p-test.false))) c.rebuildable.ensures
