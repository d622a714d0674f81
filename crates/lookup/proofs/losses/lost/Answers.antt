-- `lookup::losses::lost` meets its contract.
use mathlib.Core.Path.{sym, ◌∙◌}
use native.Mathlib.Omega.{arith}
use Rattle.lookup.specs.GroupLaws.{lost_some, lost_none}
use Rattle.lookup.proofs.losses.lost.Goals as goal

pub returns-then-beyond : goal.returns-then-beyond
returns-then-beyond c =
    lost_some c.args.s.now c.loop-g.g c.loop-g-test.true (sym c.beyond.ensures ∙ c.if-beyond.true)

pub returns : goal.returns
returns c =
    lost_none c.args.s.now (λ g l. c.loop-g.invariant.missed g (omega (arith, c.loop-g-test.false)))
