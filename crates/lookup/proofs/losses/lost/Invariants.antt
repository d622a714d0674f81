use Rattle.buffer.specs.LoopTests.{Missing}
use Rattle.model.specs.Layout.{view}
use Rattle.model.specs.Reads.{beyond_in}
use Rattle.lookup.proofs.losses.lost.Given as goal

abbrev pub invariant-loop-g : goal.invariant-loop-g
invariant-loop-g l =
    Missing (beyond_in (view l.s)) 4 l.g
