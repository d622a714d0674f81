-- A line that is answered, from what its command prints and leaves.
use Prim.Native.Nat.{ℕ}
use mathlib.Core.Path.{◌≡◌, sym, ap, ◌∙◌}
use mathlib.Core.List.{List}
use lib.Dec.{eqb}
use Rattle.buffer.specs.Choice.{pick}
use Rattle.buffer.specs.ChoiceLaws.{pick_same}
use Rattle.model.specs.Layout.{view}
use Rattle.model.specs.Numbers.{Call, number_in}
use Rattle.model.specs.Perform.{plain, granted_in, Outcome, outcome, after_in, perform}
use Rattle.lines.specs.Line.{Line, parsed}
use Rattle.lines.specs.Spoken.{line_of}
use Rattle.lines.specs.declared.line.Command.{Command as Read}
use Rattle.lines.specs.Output.{number_line}
use Rattle.lines.specs.Put.{Put}
use Rattle.answering.specs.Command.{Command, command_of}
use Rattle.answering.specs.Said.{executed, printed, record_lines, said, after}
use Rattle.answering.specs.Buffers.{list_left, answered, answer_of}

-- what a line asks that was read as the command y
pub asked : {l : Line} {x y : Read} {c : Command} → line_of x ≡ l → x ≡ y → command_of (line_of y) ≡ c → command_of l ≡ c
asked e q f = ap command_of (sym e) ∙ ap (λ z. command_of (line_of z)) q ∙ f

-- a line whose command is c
pub command_answered : (s l o text : List ℕ) {s' l' o' : List ℕ} {size : ℕ} (c : Command) → command_of (parsed text) ≡ c
    → Put (printed (executed s c).answer (record_lines (view s))) o o' size → s' ≡ (executed s c).store → l' ≡ list_left s c l
    → answered size o' s' l' ≡ answer_of s l o text
unfolding answer_of said after
command_answered s l o text c e put left kept = rw (put.long, put.bytes, left, kept, ← e)

-- a call that, granted, leaves the store as it was, leaves it so in any case: read and list
pub store_kept : (s : List ℕ) (c : Call) → s ≡ granted_in s c → s ≡ (perform s c).store
unfolding perform after_in
store_kept s c e = sym (pick_same (eqb (number_in s c) 0) s) ∙ ap (λ x. pick (eqb (number_in s c) 0) x s) e

-- a line whose command prints its number alone, and leaves the list buffer
pub plain_answered : (s l o text : List ℕ) {s' o' : List ℕ} {r size : ℕ} → Put (number_line r) o o' size → (c : Command) → command_of (parsed text) ≡ c
    → outcome (plain r) s' ≡ executed s c → l ≡ list_left s c l → answered size o' s' l ≡ answer_of s l o text
unfolding printed
plain_answered s l o text put c read e kept =
    command_answered s l o text c read (rw (← ap (λ (y : Outcome). y.answer) e) put) (ap (λ (y : Outcome). y.store) e) kept
