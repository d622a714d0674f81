-- What a line asks for (document 01, "The program hallrun"): L a layout, every other letter a call.
use Rattle.std.specs.Prelude.{ℕ, ◌*◌, eqb}
use Rattle.buffer.specs.Choice.{pick}
use Rattle.buffer.specs.Bytes.{zeros}
use Rattle.group.specs.Widths.{field_bytes, slot_bytes}
use Rattle.model.specs.Numbers.{Call, teach, correct, erase, read, list, unit_out, repair, grow, shrink, raise}
use Rattle.lines.specs.Line.{Line}

-- the list buffer holds 1,024 records
abbrev pub list_bytes : ℕ
list_bytes = 1024 * slot_bytes

pub data Command : Type 0 where
  layout : ℕ → Command
  call : Call → Command
  unknown : Command  -- the line is not readable

-- by the letter: L, T, C, E, R, O, F, G, S, K, P. A read gets a buffer that fits, a list the list buffer: its number depends on the length alone
unfoldable pub command_of : Line → Command
command_of x =
    pick (eqb x.letter 76) (layout x.number)
    (pick (eqb x.letter 84) (call (teach x.number x.field))
    (pick (eqb x.letter 67) (call (correct x.number x.field))
    (pick (eqb x.letter 69) (call (erase x.number))
    (pick (eqb x.letter 82) (call (read x.number (zeros field_bytes)))
    (pick (eqb x.letter 79) (call (unit_out x.number))
    (pick (eqb x.letter 70) (call (repair x.number))
    (pick (eqb x.letter 71) (call grow)
    (pick (eqb x.letter 83) (call shrink)
    (pick (eqb x.letter 75) (call raise)
    (pick (eqb x.letter 80) (call (list (zeros list_bytes)))
    unknown))))))))))
