-- `lookup::losses::keys_lost` meets its contract.
use mathlib.Core.Path.{sym, ◌∙◌}
use borrow.Author.Tests.{ne_eqb}
use Rattle.lookup.specs.GroupLaws.{lost_no, lost_none_serves}
use Rattle.lookup.proofs.losses.keys_lost.Goals as goal

pub returns-then-state-eq-OUT : goal.returns-then-state-eq-OUT
returns-then-state-eq-OUT c =
    sym (lost_none_serves c.args.s.now c.args.u c.requires.0 c.state.ensures c.if-state-eq-OUT.true c.requires.1)

pub returns-else-state-eq-OUT : goal.returns-else-state-eq-OUT
returns-else-state-eq-OUT c =
    ne_eqb _ 2 c.if-state-eq-OUT.false ∙ sym (lost_no c.args.s.now c.args.u c.requires.0 c.state.ensures c.if-state-eq-OUT.false)
