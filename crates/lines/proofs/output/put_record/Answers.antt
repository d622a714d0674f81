-- `output::put_record` meets its contract.
use Rattle.lines.proofs.Writing.{record_line_lem}
use Rattle.lines.proofs.output.put_record.Goals as goal

pub returns : goal.returns
returns c =
    let a = c.args in
    record_line_lem a.line.now _ _ _ _ a.slot.now a.unit a.rank c.requires.0 c.requires.1 c.put_argument.ensures c.put_argument-2.ensures
    c.put_argument-3.ensures c.put_argument-4.ensures
