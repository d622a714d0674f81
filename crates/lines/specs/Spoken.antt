-- Which line a command is.
use Rattle.std.specs.Prelude.{Option, Some, None}
use Rattle.buffer.specs.Bytes.{zeros}
use Rattle.group.specs.Widths.{field_bytes}
use Rattle.lines.specs.Line.{Line, line, unreadable}
use Rattle.lines.specs.declared.line.Command.{Command}
use Rattle.lines.specs.declared.line.Command.TheVariants.{LayOut, Teach, Correct, Erase, Read, UnitOut, Repair, Grow, Shrink, Raise, List as ListAll}

-- the line of a command
abbrev pub line_of : Command → Line
line_of (LayOut b) = line 76 b (zeros field_bytes)
line_of (Teach key field) = line 84 key field
line_of (Correct key field) = line 67 key field
line_of (Erase key) = line 69 key (zeros field_bytes)
line_of (Read key) = line 82 key (zeros field_bytes)
line_of (UnitOut unit) = line 79 unit (zeros field_bytes)
line_of (Repair group) = line 70 group (zeros field_bytes)
line_of Grow = line 71 0 (zeros field_bytes)
line_of Shrink = line 83 0 (zeros field_bytes)
line_of Raise = line 75 0 (zeros field_bytes)
line_of ListAll = line 80 0 (zeros field_bytes)

-- the line that was read, if it is readable
abbrev pub spoken : Option Command → Line
spoken None = unreadable
spoken (Some c) = line_of c
