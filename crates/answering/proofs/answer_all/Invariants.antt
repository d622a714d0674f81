use lib.ListN.{length}
use Rattle.answering.proofs.Turns.{Reached}
use Rattle.answering.proofs.answer_all.Given as goal

abbrev pub invariant-loop-rest : goal.invariant-loop-rest
invariant-loop-rest l =
    Reached l.initial.store l.initial.list l.initial.out l.text l.store l.list l.out l.rest

abbrev pub decreases-loop-rest : goal.decreases-loop-rest
decreases-loop-rest l =
    length l.rest
