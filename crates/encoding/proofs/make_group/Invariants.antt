use Rattle.model.specs.Layout.{view}
use Rattle.encoding.specs.Made.{in_state, in_group}
use Rattle.encoding.proofs.RankLoop.{Making}
use Rattle.encoding.proofs.make_group.Given as goal

abbrev pub invariant-loop-r : goal.invariant-loop-r
invariant-loop-r l =
    Making (in_state 1 (view l.initial.s) (in_group l.g)) l.initial.s l.s l.r
