-- What a line prints and the store that it leaves, and so for the lines of a text (document 01, "The program hallrun").
use Rattle.std.specs.Prelude.{ℕ, suc, List, [], ◌∷◌, ◌++◌, eqb, take}
use Rattle.buffer.specs.Choice.{pick}
use Rattle.buffer.specs.Bytes.{zeros}
use Rattle.buffer.specs.Table.{tab}
use Rattle.model.specs.Layout.{Store, view}
use Rattle.model.specs.Reads.{listed_fill, whole_slot}
use Rattle.model.specs.Perform.{Answer, plain, copied, lent, listed, planned, Outcome, outcome, perform, lay_out}
use Rattle.lines.specs.Text.{lines_of}
use Rattle.lines.specs.Line.{parsed}
use Rattle.lines.specs.Output.{number_line, field_line, record_line}
use Rattle.answering.specs.Command.{Command, layout, call, unknown, command_of}

-- what a command ends in: the answer, and the store's bytes; the number of a line that is not readable is 10, before any other
unfoldable pub executed : List ℕ → Command → Outcome
executed s (layout b) = lay_out s b
executed s (call c) = perform s c
executed s unknown = outcome (plain 10) s

-- what is printed of an answer: its number; behind that of a granted read the field; behind that of a granted list the lines of the records. No line
-- reads in place or asks for a plan
unfoldable pub printed : Answer → List ℕ → List ℕ
printed (plain n) records = number_line n
printed (copied n field) records = pick (eqb n 0) (field_line field) (number_line n)
printed (lent x) records = []
printed (listed n count bytes) records = number_line n ++ pick (eqb n 0) records []
printed (planned n count moves) records = []

-- a line for each record of a store, by unit and then rank, out units rebuilt: its unit, its rank counted from 1, its key and its field
unfoldable pub record_lines : Store → List ℕ
record_lines v = tab 16 (λ u. tab (listed_fill v u) (λ r. record_line u (suc r) (whole_slot v u r)))

-- the bytes that a line prints, and the store that it leaves
unfoldable pub said : List ℕ → List ℕ → List ℕ
said s l = printed (executed s (command_of (parsed l))).answer (record_lines (view s))

unfoldable pub after : List ℕ → List ℕ → List ℕ
after s l = (executed s (command_of (parsed l))).store

-- the same of the lines of a text: what each prints, and the store at the end
unfoldable pub said_all : List ℕ → List (List ℕ) → List (List ℕ)
said_all s [] = []
said_all s (l ∷ ls) = said s l ∷ said_all (after s l) ls

unfoldable pub after_all : List ℕ → List (List ℕ) → List ℕ
after_all s [] = s
after_all s (l ∷ ls) = after_all (after s l) ls

-- ---- the program: it reads at most 4,096 bytes of lines, and its store buffer, 52,260 bytes, is all zero at the start

abbrev pub text_bytes : ℕ
text_bytes = 4096

abbrev pub buffer_bytes : ℕ
buffer_bytes = 52260

unfoldable pub blank : List ℕ
blank = zeros buffer_bytes

unfoldable pub joined : List (List ℕ) → List ℕ
joined [] = []
joined (x ∷ xs) = x ++ joined xs

-- what it prints, of what there is to read
unfoldable pub hallrun : List ℕ → List ℕ
hallrun input = joined (said_all blank (lines_of (take text_bytes input)))
