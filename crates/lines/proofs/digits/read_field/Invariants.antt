use Rattle.lines.proofs.Reading.{FieldRead}
use Rattle.lines.proofs.digits.read_field.Given as goal

abbrev pub invariant-loop-i : goal.invariant-loop-i
invariant-loop-i l =
    FieldRead l.digits l.initial.field l.field l.i
