-- A list into the list buffer: what is printed of it, and what the buffer holds then.
use Prim.Native.Nat.{ℕ, ◌*◌, ◌≤◌}
use mathlib.Core.Path.{◌≡◌, sym, ap, ◌∙◌}
use mathlib.Core.List.{List, [], ◌++◌, append-nil}
use mathlib.Core.Bool.{true, false}
use native.Mathlib.Omega.{arith}
use lib.Dec.{eqb}
use lib.ListN.{length, drop, length-append}
use borrow.Author.Tests.{eq-eqb, ne_eqb, ltb-false, not-false}
use Rattle.buffer.specs.Choice.{pick}
use Rattle.buffer.specs.ChoiceLaws.{pick_true, pick-false}
use Rattle.buffer.specs.Bytes.{byte, zeros}
use Rattle.buffer.specs.ByteLaws.{length_zeros}
use Rattle.buffer.specs.Table.{tab}
use Rattle.buffer.specs.TableLaws.{length_tab}
use Rattle.group.specs.Widths.{slot_bytes}
use Rattle.model.specs.Layout.{view, units_in}
use Rattle.model.specs.Reads.{lost_in, total_in, listing_in}
use Rattle.model.specs.Sound.{sound}
use Rattle.model.specs.StoreLaws.{units_of}
use Rattle.model.specs.Numbers.{list, refusals_in, number_in}
use Rattle.model.specs.RowLaws.{Free, first_free, numbered_in}
use Rattle.model.specs.Perform.{listed, output, reply, given_in, Outcome, outcome, answer_in, perform}
use Rattle.lookup.specs.ListingLaws.{listing_long}
use Rattle.lines.specs.Output.{number_line}
use Rattle.lines.specs.Put.{record_line_bytes}
use Rattle.lines.specs.OutputLaws.{length_record_line}
use Rattle.answering.specs.Command.{list_bytes}
use Rattle.answering.specs.Said.{printed, record_lines}
use Rattle.answering.specs.Places.{listed_line, Records}
use Rattle.answering.proofs.OwnPlaces.{own_lines, own_records}

pub lines_long : (m n : ℕ) (l : List ℕ) → length (tab n (listed_line m l)) ≡ record_line_bytes * n
unfolding listed_line
lines_long m n l = length_tab n record_line_bytes (listed_line m l) (λ i q. length_record_line _ _ _)

-- a list into the buffer l₀ ended in the number n and the count, and left the buffer as l
pub record ListInto (s l₀ l : List ℕ) (n count : ℕ) : Type 0 where
  pub ended : outcome (listed n count l) s ≡ perform s (list l₀)
  pub fits : length l₀ ≡ list_bytes

module _ {s l₀ l : List ℕ} {n count : ℕ} (h : ListInto s l₀ l n count) where
  answer_is : listed n count l ≡ listed (number_in s (list l₀)) (pick (eqb (number_in s (list l₀)) 0) (total_in (view s)) 0)
      (output (number_in s (list l₀)) (listing_in (view s)) l₀)
  unfolding perform answer_in reply given_in
  answer_is = ap (λ (o : Outcome). o.answer) h.ended

  number_here : n ≡ number_in s (list l₀)
  number_here = cc answer_is

  -- the number depends on the buffer's length alone
  number_is : n ≡ number_in s (list (zeros list_bytes))
  unfolding number_in refusals_in
  number_is =
      let same : length l₀ ≡ length (zeros list_bytes) = h.fits ∙ sym (length_zeros list_bytes) in
      number_here ∙ rw same

  pub buffer_is : l ≡ output (number_in s (list (zeros list_bytes))) (listing_in (view s)) l₀
  buffer_is =
      let left : l ≡ output (number_in s (list l₀)) (listing_in (view s)) l₀ = cc answer_is in
      left ∙ ap (λ i. output i (listing_in (view s)) l₀) (sym number_here ∙ number_is)

  list_printed : (records : List ℕ) → printed (perform s (list (zeros list_bytes))).answer records ≡ number_line n ++ pick (eqb n 0) records []
  unfolding printed perform answer_in reply
  list_printed records = rw number_is

  pub refused_printed : (n ≡ 0 → ⊥) → (records : List ℕ) → number_line n ≡ printed (perform s (list (zeros list_bytes))).answer records
  refused_printed z records =
      sym (list_printed records ∙ ap (λ x. number_line n ++ x) (pick-false (ne_eqb n 0 z) records []) ∙ append-nil (number_line n))

  -- ---- granted
  module _ (zero : n ≡ 0) where
    none_holds : Free (refusals_in (sound s) (view s) (list l₀))
    unfolding number_in
    none_holds = first_free _ (numbered_in (sound s) (view s) (list l₀)) (sym number_here ∙ zero)

    ok : sound s ≡ true
    unfolding refusals_in
    ok = not-false (sound s) none_holds.0

    safe : lost_in (view s) ≡ false
    unfolding refusals_in
    safe = none_holds.1.0

    pub room : slot_bytes * total_in (view s) ≤ list_bytes
    unfolding refusals_in
    room = rw h.fits at (ltb-false (length l₀) (slot_bytes * total_in (view s)) none_holds.1.1.0)

    pub count_is : count ≡ total_in (view s)
    count_is =
        let here : count ≡ pick (eqb (number_in s (list l₀)) 0) (total_in (view s)) 0 = cc answer_is in
        here ∙ pick_true (eq-eqb _ 0 (sym number_here ∙ zero)) (total_in (view s)) 0

    list_is : l ≡ listing_in (view s) ++ drop (length (listing_in (view s))) l₀
    unfolding output
    list_is =
        let left : l ≡ output (number_in s (list l₀)) (listing_in (view s)) l₀ = cc answer_is in
        left ∙ pick_true (eq-eqb _ 0 (sym number_here ∙ zero)) _ l₀

    -- m is what the store says of its units
    module _ {m : ℕ} (units : m ≡ byte s 6) where
      m_is : m ≡ units_in (view s)
      m_is = units ∙ units_of s

      pub records_are : Records m l count
      records_are =
          rw (m_is, list_is, count_is) (own_records s ok safe (drop (length (listing_in (view s))) l₀)
          (simp length-append (omega (arith, listing_long s ok safe))))

      pub granted_printed : number_line n ++ tab count (listed_line m l) ≡ printed (perform s (list (zeros list_bytes))).answer (record_lines (view s))
      granted_printed =
          sym (list_printed (record_lines (view s)) ∙ ap (λ x. number_line n ++ x) (pick_true (eq-eqb n 0 zero) (record_lines (view s)) []
          ∙ sym (rw (m_is, list_is, count_is) (own_lines s ok safe (drop (length (listing_in (view s))) l₀)))))
