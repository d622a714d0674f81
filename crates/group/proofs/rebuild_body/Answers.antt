-- `group::rebuild_body` meets its contract.
use mathlib.Core.Path.{sym, ◌∙◌}
use native.Mathlib.Omega.{arith}
use lib.ListN.{length}
use borrow.Author.Rules.{rules}
use Rattle.buffer.specs.RangeLaws.{below-four}
use Rattle.buffer.specs.LoopWrites.{filling_start, filling_turn, filling_end}
use Rattle.group.specs.Four.{four_bodies}
use Rattle.group.proofs.WeighedLaws.{weighed_entries}
use Rattle.group.proofs.rebuild_body.Goals as goal

pub loop-i-init : goal.loop-i-init
loop-i-init c =
    filling_start

pub loop-i-preserved : goal.loop-i-preserved
loop-i-preserved c =
    filling_turn _ c.loop-i.invariant (search rules) c.mix.ensures

pub returns : goal.returns
unfolding four_bodies
returns c =
    let a = c.args in
    filling_end c.loop-i.invariant (omega arith)
    ∙ sym (weighed_entries (length a.out.now) a.weights (search rules) (four_bodies a.a.now a.b.now a.c.now a.d.now)
    (below-four _ c.requires.0 c.requires.1 c.requires.2 c.requires.3))
