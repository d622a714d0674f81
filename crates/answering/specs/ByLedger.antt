-- The lines of a text answered by the ledger (document 01, "The ledger"): for every text, from the program's store buffer, each line prints what the
-- ledger says, and the store at the end is one that the history of the lines leaves.
use Rattle.std.specs.Prelude.{ℕ, suc, ◌≡◌, List, [], ◌∷◌, false, eqb, ltb, length}
use Rattle.std.proofs.Math.Option.{Option, none, some}
use Rattle.buffer.specs.Choice.{pick}
use Rattle.buffer.specs.Table.{tab}
use Rattle.model.specs.Layout.{view}
use Rattle.model.specs.Numbers.{Call, first_of, refusals_in}
use Rattle.model.specs.Perform.{Answer, plain, refusal}
use Rattle.model.specs.history.Ledger.{Ledger, record_at}
use Rattle.model.specs.history.Picture.{record_bytes}
use Rattle.model.specs.history.Answers.{answer}
use Rattle.model.specs.history.Leaves.{History, history, ledger_after, followed, Leaves}
use Rattle.lines.specs.Line.{parsed}
use Rattle.lines.specs.Output.{record_line}
use Rattle.answering.specs.Command.{Command, layout, call, unknown, command_of}
use Rattle.answering.specs.Said.{printed, said_all, after_all, blank}

-- the number of a layout in the program's buffer, which is long enough for 64 ranks; and of a call before any layout, when the store is not sound: 2
-- where an argument is outside its range, else 1
unfoldable pub layout_number : ℕ → ℕ
layout_number b = first_of ((ltb b 1, 2) ∷ (ltb 64 b, 2) ∷ [])

unfoldable pub unlaid_number : Call → ℕ
unlaid_number c = pick (eqb (first_of (refusals_in false (view []) c)) 2) 2 1

-- the history of the lines so far: the last granted layout, and the calls since; there is none before the first
unfoldable pub history_after : Option History → Command → Option History
history_after h (layout b) = pick (eqb (layout_number b) 0) (some (history b [])) h
history_after none (call c) = none
history_after (some h) (call c) = some (followed h c)
history_after h unknown = h

-- the answer to a command, by the ledger of that history
unfoldable pub answer_by : Option History → Command → Answer
answer_by h (layout b) = plain (layout_number b)
answer_by none (call c) = refusal c (unlaid_number c)
answer_by (some h) (call c) = answer (ledger_after h) c
answer_by h unknown = plain 10

-- a line for each record of a ledger, by unit and then rank; before a layout there is no record
unfoldable pub ledger_lines : Ledger → List ℕ
ledger_lines l = tab 16 (λ u. tab (length (l.records u)) (λ r. record_line u (suc r) (record_bytes (record_at l u r))))

unfoldable pub lines_by : Option History → List ℕ
lines_by none = []
lines_by (some h) = ledger_lines (ledger_after h)

-- of lines, behind the lines of a history: what each prints, and the history at the end
unfoldable pub said_by : Option History → List (List ℕ) → List (List ℕ)
said_by h [] = []
said_by h (x ∷ xs) = printed (answer_by h (command_of (parsed x))) (lines_by h) ∷ said_by (history_after h (command_of (parsed x))) xs

unfoldable pub history_of : Option History → List (List ℕ) → Option History
history_of h [] = h
history_of h (x ∷ xs) = history_of (history_after h (command_of (parsed x))) xs

-- the store buffer is as the history leaves it, from a layout in a slice of the buffer's length; before a layout it is all zero
abbrev pub LeftBy : Option History → List ℕ → Type 0
LeftBy none s = s ≡ blank
LeftBy (some h) s = (slice : List ℕ) × (length slice ≡ length blank) × Leaves slice h s

pub record ByLedger (ls : List (List ℕ)) : Type 0 where
  pub said : said_all blank ls ≡ said_by none ls
  pub left : LeftBy (history_of none ls) (after_all blank ls)
