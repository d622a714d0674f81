-- `splitting::states::set_first` meets its contract.
use mathlib.Core.Path.{ap, ◌∙◌}
use Rattle.model.specs.Layout.{bytes, view}
use Rattle.splitting.specs.Steps.{levelled}
use Rattle.splitting.proofs.Places.{levelled_none, first_unit, other_unit}
use Rattle.splitting.proofs.states.set_first.Goals as goal

pub returns-then-u-eq0 : goal.returns-then-u-eq0
returns-then-u-eq0 c =
    c.set_checks.ensures ∙ ap (λ p. bytes (levelled p c.args.level (view c.args.s.now))) (first_unit c.args.u c.if-u-eq0.true)

pub returns-else-u-eq0 : goal.returns-else-u-eq0
returns-else-u-eq0 c =
    levelled_none _ (other_unit c.args.u c.if-u-eq0.false) c.args.s.now c.requires.0 c.args.level
