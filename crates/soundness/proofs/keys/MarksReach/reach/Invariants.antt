use Rattle.soundness.specs.KeyLists.{turned_of}
use Rattle.soundness.proofs.Matching.{Running}
use Rattle.soundness.proofs.keys.MarksReach.reach.Given as goal

abbrev pub invariant-loop-r : goal.invariant-loop-r
invariant-loop-r l =
    Running (turned_of l.list) (turned_of l.other) l.list.ranks l.mark l.list.at l.list.step l.other.at l.other.step l.self.table l.differ l.p l.q l.r
