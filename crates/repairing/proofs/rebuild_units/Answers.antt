-- `repairing::rebuild_units` meets its contract.
use borrow.Author.Rules.{rules}
use mathlib.Core.Path.{refl, sym, ◌∙◌}
use Rattle.lookup.specs.States.{state_byte}
use Rattle.repairing.proofs.Restoring.{restoring_start, restoring_unit, restoring_first_check, restoring_off, restoring_on, restoring_end}
use Rattle.repairing.proofs.rebuild_units.Goals as goal
use Rattle.repairing.proofs.rebuild_units.Goals.{then-state-eq-OUT, else-state-eq-OUT}

pub loop-p-init : goal.loop-p-init
loop-p-init c =
    restoring_start c.requires.near

pub rebuild_unit-requires : goal.rebuild_unit-requires
rebuild_unit-requires c =
    let out = state_byte _ _ ∙ sym c.state.ensures ∙ c.if-state-eq-OUT.true in (
      restoring_unit c.requires.near c.loop-p.invariant (search rules) refl c.requires.counts out,
      restoring_first_check c.requires.near c.loop-p.invariant (search rules) refl _ c.requires.first,
    )

pub loop-p-preserved : goal.loop-p-preserved
loop-p-preserved c =
    let state = c.state.ensures in
    elim c.if-state-eq-OUT.branch [
      | then-state-eq-OUT w ↦ restoring_on c.requires.near c.loop-p.invariant (search rules) refl (w.s-is ∙ w.rebuild_unit.ensures)
      | else-state-eq-OUT w ↦ rw w.s-is (restoring_off c.requires.near c.loop-p.invariant (search rules) refl (λ k. w.if-state-eq-OUT.false (state ∙ sym (state_byte _ _) ∙ k)))
    ]

pub returns : goal.returns
returns c =
    restoring_end c.requires.near c.loop-p.invariant (search rules)
