use Rattle.soundness.specs.KeyLists.{turned_of}
use Rattle.soundness.proofs.Matching.{MatchingFew}
use Rattle.soundness.proofs.keys.FewReach.reach.Given as goal

abbrev pub invariant-loop-r : goal.invariant-loop-r
invariant-loop-r l =
    MatchingFew (turned_of l.list) (turned_of l.other) l.list.ranks l.m l.u l.r
