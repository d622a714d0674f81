-- `lookup::losses::gone` meets its contract.
use mathlib.Core.Path.{sym, ap, ◌∙◌}
use mathlib.Core.Bool.{not}
use native.Mathlib.Omega.{arith}
use borrow.Author.Tests.{eq-eqb, ne_eqb}
use Rattle.buffer.specs.TestLaws.{and_false_first}
use Rattle.lookup.specs.States.{state_data}
use Rattle.lookup.proofs.losses.gone.Goals as goal

pub rebuildable-requires : goal.rebuildable-requires
rebuildable-requires c =
    let p = c.requires in
    let seen = c.state.ensures ∙ state_data c.args.s.now c.args.u p.1 in
    (p.0, omega (arith, p.1), p.2 (sym seen ∙ c.if-state-eq-OUT.true))

pub returns-then-state-eq-OUT : goal.returns-then-state-eq-OUT
returns-then-state-eq-OUT c =
    let seen = c.state.ensures ∙ state_data c.args.s.now c.args.u c.requires.1 in
    rw (eq-eqb _ 2 (sym seen ∙ c.if-state-eq-OUT.true)) (ap not c.rebuildable.ensures)

pub returns-else-state-eq-OUT : goal.returns-else-state-eq-OUT
returns-else-state-eq-OUT c =
    let seen = c.state.ensures ∙ state_data c.args.s.now c.args.u c.requires.1 in
    let no = c.if-state-eq-OUT.false in
    ne_eqb _ 2 no ∙ sym (and_false_first (ne_eqb _ 2 (λ e. no (seen ∙ e))) _)
