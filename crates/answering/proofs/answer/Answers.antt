-- `answer` meets its contract.
use mathlib.Core.Path.{refl, sym, ap}
use Rattle.buffer.specs.Choice.{pick}
use Rattle.buffer.specs.Bytes.{zeros}
use Rattle.group.specs.Widths.{field_bytes}
use Rattle.model.specs.Numbers.{teach, correct, erase, read, list, unit_out, repair, grow, shrink, raise}
use Rattle.model.specs.Perform.{reply, granted_in, answer_in, perform}
use Rattle.lines.specs.Line.{unreadable}
use Rattle.answering.specs.Command.{layout, call, unknown, list_bytes, command_of}
use Rattle.answering.specs.Said.{executed, printed}
use Rattle.answering.specs.Buffers.{list_left}
use Rattle.answering.proofs.Answering.{asked, command_answered, plain_answered, store_kept}
use Rattle.answering.proofs.answer.Goals as goal
use Rattle.answering.proofs.answer.Goals.{in-LayOut, in-Teach, in-Correct, in-Erase, in-UnitOut, in-Repair, in-Grow, in-Shrink, in-Raise}

pub returns-in_default : goal.returns-in_default
unfolding command_of pick unreadable executed list_left
returns-in_default c =
    let a = c.args in
    plain_answered a.store.now a.list.now a.out.now a.text.now c.put_number.ensures unknown (ap command_of (sym c.in_default.ensures)) refl refl

pub returns-in-Read : goal.returns-in-Read
unfolding command_of pick executed printed perform answer_in reply granted_in list_left
returns-in-Read c =
    let a = c.args in
    command_answered a.store.now a.list.now a.out.now a.text.now (call (read c.in-Read.key (zeros field_bytes)))
    (asked c.in-Some.ensures c.in-Read.is refl) c.answer_read.ensures (store_kept _ _ refl) refl

pub returns-in-List : goal.returns-in-List
unfolding command_of pick executed granted_in list_left
returns-in-List c =
    let a = c.args in
    command_answered a.store.now a.list.now a.out.now a.text.now (call (list (zeros list_bytes)))
    (asked c.in-Some.ensures c.in-List.is refl) c.answer_list.ensures.said (store_kept _ _ refl) c.answer_list.ensures.kept

pub returns : goal.returns
unfolding command_of pick executed list_left
returns c =
    let a = c.args in
    let line = c.in-Some.ensures in
    let plain = plain_answered a.store.now a.list.now a.out.now a.text.now (rw c.number.ensures at c.put_number-2.ensures) in
    elim c.match-command.branch [
      | in-LayOut w ↦ plain (layout w.in-LayOut.b) (asked line w.in-LayOut.is refl) (rw (w.answer-is, w.store-is) w.lay_out-answer.ensures) refl
      | in-Teach w ↦ plain (call (teach w.in-Teach.key w.in-Teach.field)) (asked line w.in-Teach.is refl) (rw (w.answer-is, w.store-is) w.teach-answer.ensures) refl
      | in-Correct w ↦ plain (call (correct w.in-Correct.key w.in-Correct.field)) (asked line w.in-Correct.is refl) (rw (w.answer-is, w.store-is) w.correct-answer.ensures) refl
      | in-Erase w ↦ plain (call (erase w.in-Erase.key)) (asked line w.in-Erase.is refl) (rw (w.answer-is, w.store-is) w.erase-answer.ensures) refl
      | in-UnitOut w ↦ plain (call (unit_out w.in-UnitOut.unit)) (asked line w.in-UnitOut.is refl) (rw (w.answer-is, w.store-is) w.unit_out-answer.ensures) refl
      | in-Repair w ↦ plain (call (repair w.in-Repair.group)) (asked line w.in-Repair.is refl) (rw (w.answer-is, w.store-is) w.repair-answer.ensures) refl
      | in-Grow w ↦ plain (call grow) (asked line w.in-Grow.is refl) (rw (w.answer-is, w.store-is) w.grow-answer.ensures) refl
      | in-Shrink w ↦ plain (call shrink) (asked line w.in-Shrink.is refl) (rw (w.answer-is, w.store-is) w.shrink-answer.ensures) refl
      | in-Raise w ↦ plain (call raise) (asked line w.in-Raise.is refl) (rw (w.answer-is, w.store-is) w.raise-answer.ensures) refl
    ]
