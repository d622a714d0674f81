use lib.Dec.{eqb}
use Rattle.buffer.specs.LoopTests.{GatheringBehind}
use Rattle.soundness.specs.KeyLists.{keys_of}
use Rattle.soundness.proofs.keys.no_keys.Given as goal

abbrev pub invariant-loop-r : goal.invariant-loop-r
invariant-loop-r l =
    GatheringBehind (λ i. eqb (keys_of l.list i) 0) l.n l.list.ranks l.r l.any
