use Rattle.coder.proofs.Logs.{LogSumming}
use Rattle.coder.proofs.weights.log_others.Given as goal

abbrev pub invariant-loop-p : goal.invariant-loop-p
invariant-loop-p l =
    LogSumming l.c l.points.list l.points.m l.p-index l.s
