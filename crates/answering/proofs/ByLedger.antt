-- Every line of every text is answered as the ledger answers it: the calls since the last granted layout are a history of the store.
use Prim.Native.Nat.{ℕ, suc}
use native.Mathlib.Omega.{arith}
use mathlib.Core.Path.{◌≡◌, refl, sym, ap, ap₂, ◌∙◌}
use mathlib.Core.List.{List, [], ◌∷◌, ◌++◌}
use mathlib.Core.Option.{Option, none, some}
use mathlib.Core.Bool.{false}
use lib.Dec.{eqb, ltb}
use lib.ListN.{length, take}
use borrow.Author.Tests.{eqb-true, eq-eqb, ltb-false, le-ltb}
use Rattle.buffer.specs.Choice.{pick}
use Rattle.buffer.specs.ChoiceLaws.{by-test, pick_true, pick-false, pick-ext}
use Rattle.buffer.specs.ByteLaws.{length_zeros}
use Rattle.buffer.specs.TableLaws.{tab_ext}
use Rattle.model.specs.Layout.{Store, store_bytes, view}
use Rattle.model.specs.Sound.{sound}
use Rattle.model.specs.Numbers.{Call, teach, correct, erase, read, read_in_place, list, unit_out, repair, grow, shrink, raise, first_of}
use Rattle.model.specs.RowLaws.{first_free}
use Rattle.model.specs.Perform.{Outcome, reply, lay_out_number, laid_out, lay_out}
use Rattle.model.specs.history.Ledger.{Ledger, lost}
use Rattle.model.specs.history.Table.{refusals, number}
use Rattle.model.specs.history.Answers.{answer}
use Rattle.model.specs.history.Runs.{final_in}
use Rattle.model.specs.history.Leaves.{History, history, ledger_after, SameRecords, AtEnd}
use Rattle.model.proofs.history.claims.Leaves.{at_end}
use Rattle.lines.specs.Text.{lines_of}
use Rattle.lines.specs.Line.{parsed}
use Rattle.lines.specs.Output.{number_line, record_line}
use Rattle.answering.specs.Command.{Command, layout, call, unknown, command_of}
use Rattle.answering.specs.Said.{executed, printed, record_lines, said, after, said_all, after_all, text_bytes, buffer_bytes, blank, joined, hallrun}
use Rattle.answering.specs.ByLedger.{layout_number, history_after, answer_by, ledger_lines, lines_by, said_by, history_of, LeftBy, ByLedger}
use Rattle.answering.proofs.TypedLines.{TypedCommand, line_typed}
use Rattle.answering.proofs.Unlaid.{unsound, no_records, refused_unlaid}

-- ---- the ledger of a history

same_lines : {v : Store} {l : Ledger} → SameRecords v l → record_lines v ≡ ledger_lines l
unfolding record_lines ledger_lines
same_lines h = tab_ext 16 _ _ (λ u a. rw (h.counted u a) (tab_ext _ _ _ (λ r q. ap (record_line u (suc r)) (h.held u r a q))))

-- where a list is granted no unit is lost beyond recovery
unlost : (l : Ledger) (out : List ℕ) → number l (list out) ≡ 0 → lost l ≡ false
unfolding number refusals
unlost l out e = (first_free (refusals l (list out)) (refl, (refl, (refl, tt))) e).1.0

-- what the ledger's answer prints depends on the records only where a list is granted
same_printed : (l : Ledger) (c : Call) {x y : List ℕ} → (lost l ≡ false → x ≡ y) → printed (answer l c) x ≡ printed (answer l c) y
unfolding answer reply printed
same_printed l (teach k z) h = refl
same_printed l (correct k z) h = refl
same_printed l (erase k) h = refl
same_printed l (read k out) h = refl
same_printed l (read_in_place k) h = refl
same_printed l (list out) {x} {y} h =
    ap (λ t. number_line (number l (list out)) ++ t)
    (pick-ext (eqb (number l (list out)) 0) x [] y [] (λ e. h (unlost l out (eqb-true (number l (list out)) 0 e))) (λ e. refl))
same_printed l (unit_out w) h = refl
same_printed l (repair g) h = refl
same_printed l grow h = refl
same_printed l shrink h = refl
same_printed l raise h = refl

-- ---- one command

-- the buffer keeps its length
left_long : (h : Option History) (s : List ℕ) → LeftBy h s → length s ≡ length blank
left_long none s left = ap length left
left_long (some h) s (slice, long, leaves) = (at_end slice h s leaves).long ∙ long

-- an L in a buffer of that length
layout_number_lem : (s : List ℕ) (b : ℕ) → length s ≡ length blank → lay_out_number s b ≡ layout_number b
unfolding lay_out_number layout_number first_of blank
layout_number_lem s b long =
    pick-ext (ltb b 1) 2 _ 2 _ (λ _. refl) (λ _. pick-ext (ltb 64 b) 2 _ 2 _ (λ _. refl) (λ high.
    pick-false (le-ltb (length s) (store_bytes b) (omega (arith, long, length_zeros buffer_bytes, ltb-false 64 b high))) 7 0))

-- where it is granted a history starts
laid_out_lem : (h : Option History) (s : List ℕ) (b : ℕ) → LeftBy h s → LeftBy (history_after h (layout b)) (lay_out s b).store
unfolding history_after lay_out final_in pick
laid_out_lem h s b left =
    let long = left_long h s left in
    let number = layout_number_lem s b long in
    rw number
    (by-test (λ t. eqb (layout_number b) 0 ≡ t → LeftBy (pick t (some (history b [])) h) (pick t (laid_out b s) s)) (eqb (layout_number b) 0)
    (λ _ e.
    let zero : lay_out_number s b ≡ 0 = number ∙ eqb-true (layout_number b) 0 e in
    (s, long, record { granted = zero; typed = tt; left = sym (pick_true (eq-eqb _ 0 zero) (laid_out b s) s) }))
    (λ _ e. left)
    refl)

-- what a command prints is what the ledger says, and it leaves what the history with it leaves
step : (h : Option History) (s : List ℕ) (x : Command) → TypedCommand x → LeftBy h s
    → (printed (executed s x).answer (record_lines (view s)) ≡ printed (answer_by h x) (lines_by h)) × LeftBy (history_after h x) (executed s x).store
unfolding executed printed answer_by lines_by history_after
step h s (layout b) t left = (unfold lay_out in ap number_line (layout_number_lem s b (left_long h s left)), laid_out_lem h s b left)
step none s (call c) t left =
    let refused = refused_unlaid s (ap sound left ∙ unsound) c in (
      ap₂ printed (ap (λ (o : Outcome). o.answer) refused) (ap (λ x. record_lines (view x)) left ∙ no_records),
      ap (λ (o : Outcome). o.store) refused ∙ left,
    )
step (some h) s (call c) t (slice, long, leaves) =
    let end : AtEnd slice h s = at_end slice h s leaves in (
      ap (λ a. printed a (record_lines (view s))) (end.answered c t) ∙ same_printed (ledger_after h) c (λ e. same_lines (end.records e)),
      (slice, long, end.next c t),
    )
step h s unknown t left = (refl, left)

-- ---- the lines of a text

as_ledger : (h : Option History) (s : List ℕ) (ls : List (List ℕ)) → LeftBy h s → (said_all s ls ≡ said_by h ls) × LeftBy (history_of h ls) (after_all s ls)
unfolding said_all after_all said after said_by history_of
as_ledger h s [] left = (refl, left)
as_ledger h s (x ∷ ls) left =
    let c : Command = command_of (parsed x) in
    let one = step h s c (line_typed x) left in
    let rest = as_ledger (history_after h c) (executed s c).store ls one.1 in
    (ap₂ (λ t ts. t ∷ ts) one.0 rest.0, rest.1)

-- EVERY TEXT
pub by_ledger : (ls : List (List ℕ)) → ByLedger ls
by_ledger ls = let all = as_ledger none blank ls refl in record { said = all.0; left = all.1 }

-- what the program prints
pub hallrun_by_ledger : (input : List ℕ) → hallrun input ≡ joined (said_by none (lines_of (take text_bytes input)))
unfolding hallrun
hallrun_by_ledger input = ap joined (by_ledger (lines_of (take text_bytes input))).said
