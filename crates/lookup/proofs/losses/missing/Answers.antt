-- `lookup::losses::missing` meets its contract.
use mathlib.Core.Path.{sym, ◌∙◌}
use borrow.Author.Tests.{ne_eqb}
use Rattle.lookup.specs.GroupLaws.{in_service_here, missing_here}
use Rattle.lookup.proofs.losses.missing.Goals as goal

pub returns-then-state-eq-OUT : goal.returns-then-state-eq-OUT
returns-then-state-eq-OUT c =
    let p = c.requires in
    sym (missing_here p.2 c.args.p (p.0, p.1) c.state.ensures c.if-state-eq-OUT.true c.from.ensures c.args.r)

pub returns-else-state-eq-OUT : goal.returns-else-state-eq-OUT
returns-else-state-eq-OUT c =
    let p = c.requires in
    ne_eqb _ 2 c.if-state-eq-OUT.false ∙ sym (in_service_here p.2 c.args.p (p.0, p.1) c.state.ensures c.args.r c.if-state-eq-OUT.false)
