use Rattle.lines.proofs.Reading.{Reading}
use Rattle.lines.proofs.digits.number.Given as goal

abbrev pub invariant-loop-c : goal.invariant-loop-c
invariant-loop-c l =
    Reading l.digits l.c-index l.value
