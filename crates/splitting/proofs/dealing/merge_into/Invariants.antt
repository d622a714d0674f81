use Rattle.splitting.proofs.MergeLoop.{Merging}
use Rattle.splitting.proofs.dealing.merge_into.Given as goal

abbrev pub invariant-loop-t : goal.invariant-loop-t
invariant-loop-t l =
    Merging l.initial.s l.n l.m l.more l.s l.t
