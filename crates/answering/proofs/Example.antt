-- Document 01's example: from the bytes of its lines to the bytes printed, computed by the ledger.
use mathlib.Core.Path.{◌≡◌, refl, ◌∙◌}
use mathlib.Core.Option.{none}
use lib.ListN.{take}
use Rattle.buffer.specs.Choice.{pick}
use Rattle.buffer.specs.Range.{all, first, count, sum}
use Rattle.buffer.specs.Loops.{entries}
use Rattle.buffer.specs.Bytes.{bytes32, zeros}
use Rattle.buffer.specs.Table.{tab, upd}
use Rattle.model.specs.Units.{power_below, split_pointer, address, digit_sum, unit_of}
use Rattle.model.specs.Numbers.{first_of}
use Rattle.model.specs.Perform.{output, reply}
use Rattle.model.specs.history.Ledger.{empty, opened, home, record_at, rank_of, placed, is_out, state, outs_of, total, with_records, granted}
use Rattle.model.specs.history.Ledger.{missing_of, checks_serving_of, rebuildable_of, keys_lost_of, key_beyond_of, beyond_of, lost}
use Rattle.model.specs.history.Picture.{record_bytes}
use Rattle.model.specs.history.Table.{refusals, number}
use Rattle.model.specs.history.Answers.{field_of, listing, given, answer, after, final}
use Rattle.model.specs.history.Leaves.{ledger_after, followed}
use Rattle.lines.specs.Digits.{digit, digit_of, hex_at, number_at, bytes_at, hex, hex_bytes}
use Rattle.lines.specs.Text.{before, lines_of}
use Rattle.lines.specs.Line.{digits_of, has_field, length_of, readable, parsed}
use Rattle.lines.specs.Output.{decimal, number_line, field_line, record_line}
use Rattle.answering.specs.Command.{command_of}
use Rattle.answering.specs.Said.{printed, text_bytes, joined, hallrun}
use Rattle.answering.specs.ByLedger.{layout_number, history_after, answer_by, ledger_lines, lines_by, said_by}
use Rattle.answering.specs.Example.{text_of, line_of, example_input, example_output}
use Rattle.answering.proofs.ByLedger.{hallrun_by_ledger}

computed : joined (said_by none (lines_of (take text_bytes example_input))) ≡ example_output
unfolding example_input example_output line_of text_of lines_of before joined said_by answer_by history_after layout_number lines_by ledger_lines followed ledger_after
    command_of parsed readable digits_of has_field length_of hex_at number_at bytes_at entries digit printed number_line decimal field_line record_line hex hex_bytes
    digit_of final after answer reply output given field_of listing granted number refusals first_of lost total beyond_of key_beyond_of keys_lost_of rebuildable_of
    checks_serving_of missing_of outs_of state is_out placed record_at rank_of home with_records opened empty record_bytes bytes32 zeros unit_of
    address digit_sum power_below split_pointer tab upd all first count sum pick
computed = refl

pub example : hallrun example_input ≡ example_output
example = hallrun_by_ledger example_input ∙ computed
