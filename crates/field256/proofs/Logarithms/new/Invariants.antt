use Rattle.field256.proofs.Logging.{Logging}
use Rattle.field256.proofs.Logarithms.new.Given as goal

abbrev pub invariant-loop-i : goal.invariant-loop-i
invariant-loop-i l =
    Logging l.table l.i
