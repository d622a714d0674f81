-- What a line leaves in lent memory: the store, the list buffer and the output buffer.
use Rattle.std.specs.Prelude.{ℕ, ◌+◌, ◌*◌, List, [], ◌∷◌, length}
use Rattle.model.specs.Layout.{view}
use Rattle.model.specs.Reads.{listing_in}
use Rattle.model.specs.Numbers.{by_kind, number_in}
use Rattle.model.specs.Perform.{output}
use Rattle.lines.specs.Line.{parsed}
use Rattle.lines.specs.Put.{record_line_bytes, over}
use Rattle.answering.specs.Command.{Command, layout, call, unknown, command_of}
use Rattle.answering.specs.Said.{said, after}

-- the longest that a line prints: the number of a granted list, and a line for each of 1,024 records
abbrev pub answer_bytes : ℕ
answer_bytes = 2 + 1024 * record_line_bytes

-- the list buffer after a command: a granted list's records and the old rest, else as it was
unfoldable pub list_left : List ℕ → Command → List ℕ → List ℕ
list_left s (layout b) list = list
list_left s (call c) list =
    by_kind c (λ k x. list) (λ k. list) (λ k out. list) (λ k. list) (λ out. output (number_in s c) (listing_in (view s)) list) list list
list_left s unknown list = list

-- how many bytes a line prints, and what it leaves
pub record Answered : Type 0 where
  pub size : ℕ
  pub out : List ℕ
  pub store : List ℕ
  pub list : List ℕ

abbrev pub answered : ℕ → List ℕ → List ℕ → List ℕ → Answered
answered size out store list = record { size = size; out = out; store = store; list = list }

-- of store, list buffer, output buffer and line
unfoldable pub answer_of : List ℕ → List ℕ → List ℕ → List ℕ → Answered
answer_of s list out l = answered (length (said s l)) (over (said s l) out) (after s l) (list_left s (command_of (parsed l)) list)

-- the lines of a text: what they leave in the list buffer and in the output buffer
unfoldable pub list_after : List ℕ → List ℕ → List (List ℕ) → List ℕ
list_after s list [] = list
list_after s list (l ∷ ls) = list_after (after s l) (list_left s (command_of (parsed l)) list) ls

unfoldable pub out_after : List ℕ → List ℕ → List (List ℕ) → List ℕ
out_after s out [] = out
out_after s out (l ∷ ls) = out_after (after s l) (over (said s l) out) ls
