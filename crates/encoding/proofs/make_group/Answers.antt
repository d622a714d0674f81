-- `encoding::make_group` meets its contract.
use mathlib.Core.Path.{sym, ◌∙◌}
use Rattle.model.specs.Layout.{view}
use Rattle.encoding.specs.Made.{in_state, in_group}
use Rattle.encoding.specs.MadeLaws.{tests_kept}
use Rattle.encoding.proofs.RankLoop.{making_start, making_turn, making_end, nothing_made}
use Rattle.encoding.proofs.make_group.Goals as goal

pub returns-then-first_check-g : goal.returns-then-first_check-g
returns-then-first_check-g c =
    nothing_made c.args.g c.requires.0 (sym c.first_check.ensures.0 ∙ c.if-first_check-g.true)

pub loop-r-init : goal.loop-r-init
loop-r-init c =
    making_start (in_state 1 (view c.args.s.now) (in_group c.args.g)) c.requires.0

pub loop-r-preserved : goal.loop-r-preserved
loop-r-preserved c =
    making_turn c.loop-r.invariant (in_state 1 (view c.loop-r.s) (in_group c.args.g)) (tests_kept c.loop-r.invariant.made 1 (in_group c.args.g))
    c.loop-r-test.true c.make_rank.ensures

pub returns : goal.returns
returns c =
    making_end c.loop-r.invariant c.loop-r-test.false
