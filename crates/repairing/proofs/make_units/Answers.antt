-- `repairing::make_units` meets its contract.
use borrow.Author.Rules.{rules}
use mathlib.Core.Path.{◌∙◌}
use Rattle.repairing.proofs.Remaking.{remaking_start, remaking_unit, remaking_off, remaking_on, remaking_end}
use Rattle.repairing.proofs.make_units.Goals as goal
use Rattle.repairing.proofs.make_units.Goals.{then-s-from-eq-OUT, else-s-from-eq-OUT}

pub loop-j-init : goal.loop-j-init
loop-j-init c =
    remaking_start c.requires

pub make_unit-requires : goal.make_unit-requires
make_unit-requires c =
    remaking_unit c.requires c.loop-j.invariant (search rules)

pub loop-j-preserved : goal.loop-j-preserved
loop-j-preserved c =
    let place = c.from.ensures in
    elim c.if-s-from-eq-OUT.branch [
      | then-s-from-eq-OUT w ↦ remaking_on c.requires c.loop-j.invariant (search rules) (rw place at w.if-s-from-eq-OUT.true) (w.s-is ∙ w.make_unit.ensures)
      | else-s-from-eq-OUT w ↦ rw w.s-is (remaking_off c.requires c.loop-j.invariant (search rules) (rw place at w.if-s-from-eq-OUT.false))
    ]

pub returns : goal.returns
returns c =
    remaking_end c.requires c.loop-j.invariant (search rules)
