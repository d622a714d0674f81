-- `calls::answer_list` meets its contract.
use Prim.Native.Nat.{ℕ, ◌+◌, ◌*◌, ◌≤◌}
use mathlib.Core.List.{List}
use mathlib.Core.Path.{◌≡◌, refl, ◌∙◌}
use native.Mathlib.Omega.{arith}
use lib.ListN.{length, length-take, length-drop}
use borrow.Author.Tests.{eqb-false}
use Rattle.refusal.specs.NumberLaws.{refused}
use Rattle.model.specs.Layout.{view}
use Rattle.model.specs.Numbers.{list}
use Rattle.model.specs.Perform.{listed, outcome, perform}
use Rattle.lines.specs.Put.{record_line_bytes}
use Rattle.lines.specs.Output.{number_line}
use Rattle.lines.specs.OutputLaws.{length_number_line, put_behind}
use Rattle.answering.specs.Command.{list_bytes}
use Rattle.answering.specs.Buffers.{answer_bytes}
use Rattle.answering.specs.Said.{record_lines}
use Rattle.answering.proofs.Listing.{lines_long, ListInto, buffer_is, refused_printed, room, count_is, records_are, granted_printed}
use Rattle.answering.proofs.calls.answer_list.Goals as goal

-- what a list has put into the buffer
into : {s l₀ l : List ℕ} {n count : ℕ} → outcome (listed n count l) s ≡ perform s (list l₀) → length l₀ ≡ list_bytes → ListInto s l₀ l n count
into e fits = record { ended = e; fits = fits }

-- granted, its number is one digit and a line feed
two_bytes : {size : ℕ} → size ≡ length (number_line 0) → size ≡ 2
two_bytes e = e ∙ length_number_line 0 (omega arith)

-- and there is room behind it for a line of each record
lines_fit : {s l₀ l : List ℕ} {count : ℕ} (out : List ℕ) → ListInto s l₀ l 0 count → answer_bytes ≤ length out → 2 + record_line_bytes * count ≤ length out
lines_fit out made most = omega (arith, most, count_is made refl, room made refl)

pub put_records-requires : goal.put_records-requires
put_records-requires c =
    let made = into c.in-Ok.ensures c.requires.0 in
    let two = two_bytes c.put_number-size.ensures.long in
    let long = lines_fit c.put_number-size.new.out made (omega (arith, c.requires.1)) in
    (records_are made refl c.byte_at-m.ensures, simp (length-take, length-drop) (omega (arith, two, long)))

pub overflow_add-result : goal.overflow_add-result
overflow_add-result c =
    let made = into c.in-Ok.ensures c.requires.0 in
    let two = two_bytes c.put_number-size.ensures.long in
    let long = lines_fit c.put_number-size.new.out made (omega (arith, c.requires.1)) in
    let size : c.put_records.result ≡ record_line_bytes * c.in-Ok.count = c.put_records.ensures.long ∙ lines_long _ _ _ in
    omega (arith, two, long)

pub returns-in-Ok : goal.returns-in-Ok
returns-in-Ok c =
    let made = into c.in-Ok.ensures c.requires.0 in
    let two = two_bytes c.put_number-size.ensures.long in
    record {
      said = rw (← granted_printed made refl c.byte_at-m.ensures) (put_behind c.put_number-size.ensures (omega (arith, two, c.requires.1)) c.put_records.ensures);
      kept = buffer_is made;
    }

pub returns-in-Err : goal.returns-in-Err
returns-in-Err c =
    let made = into c.in-Err.ensures c.requires.0 in
    let refusal = eqb-false _ 0 (refused c.in-Err.refusal) in
    record {
      said = rw (← refused_printed made refusal (record_lines (view c.args.store.now))) (rw c.from.ensures at c.put_number.ensures);
      kept = buffer_is made;
    }
