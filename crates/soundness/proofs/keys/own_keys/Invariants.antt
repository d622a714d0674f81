use lib.Dec.{eqb}
use Rattle.buffer.specs.LoopTests.{GatheringBehind}
use Rattle.model.specs.Units.{unit_of}
use Rattle.soundness.specs.KeyLists.{turned_of}
use Rattle.soundness.proofs.keys.own_keys.Given as goal

abbrev pub invariant-loop-r : goal.invariant-loop-r
invariant-loop-r l =
    GatheringBehind (λ i. eqb (unit_of l.m (turned_of l.list i)) l.u) l.f l.n l.r l.any
