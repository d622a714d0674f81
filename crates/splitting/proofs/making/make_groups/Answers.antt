-- `splitting::making::make_groups` meets its contract.
use mathlib.Core.Path.{ap, ◌∙◌}
use mathlib.Core.Bool.{true}
use native.Mathlib.Omega.{arith}
use Prim.Native.Nat.{◌/◌}
use Rattle.model.specs.Layout.{bytes, view}
use Rattle.encoding.specs.Made.{made_in, in_group, in_state}
use Rattle.encoding.specs.Holding.{holds_long}
use Rattle.encoding.specs.MadeLaws.{made_once, also_made}
use Rattle.splitting.specs.Steps.{of_both}
use Rattle.splitting.proofs.Places.{both_groups, one_group}
use Rattle.splitting.proofs.making.make_groups.Goals as goal

pub make_group-requires-then-n-m : goal.make_group-requires-then-n-m
make_group-requires-then-n-m c = (
  holds_long (made_once c.requires.0 (λ d r. in_state 1 (view c.args.s.now) (in_group (c.args.m / 4)) d) c.make_group.ensures).holds,
  omega (arith, c.requires.2, c.requires.3),
)

pub returns-then-n-m : goal.returns-then-n-m
returns-then-n-m c =
    (also_made 1 (λ r. true) (in_group (c.args.m / 4)) (in_group (c.args.n / 4)) (of_both c.args.m) (both_groups c.args.n c.args.m c.requires.1)
    (made_once c.requires.0 (λ d r. in_state 1 (view c.args.s.now) (in_group (c.args.m / 4)) d) c.make_group.ensures) c.make_group-then-n-m.ensures
    ).holds.state

pub returns-else-n-m : goal.returns-else-n-m
returns-else-n-m c =
    c.make_group.ensures ∙ ap (λ p. bytes (made_in 1 p (view c.args.s.now))) (one_group c.args.n c.args.m c.requires.1 c.if-n-m.false)
