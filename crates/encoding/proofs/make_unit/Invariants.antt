use Rattle.encoding.specs.Made.{is_unit}
use Rattle.encoding.proofs.RankLoop.{Making}
use Rattle.encoding.proofs.make_unit.Given as goal

abbrev pub invariant-loop-r : goal.invariant-loop-r
invariant-loop-r l =
    Making (is_unit l.c) l.initial.s l.s l.r
