-- Demand 1 for the calls and the layout: the number of each row, and that a refused call leaves all as it was.
use Prim.Native.Nat.{ℕ, ◌≤◌}
use mathlib.Core.Path.{◌≡◌, refl, sym, ap, ap₂, ◌∙◌}
use mathlib.Core.Logic.{◌≢◌}
use mathlib.Core.List.{List, [], ◌∷◌, ◌++◌}
use mathlib.Core.Bool.{Bool, true, false, not, ◌||◌}
use native.Mathlib.Omega.{arith}
use lib.Dec.{eqb, ltb}
use lib.ListN.{length, drop}
use borrow.Author.Tests.{eq-eqb, ne_eqb, lt-ltb, le-ltb}
use Rattle.buffer.specs.ChoiceLaws.{pick_true, pick-false}
use Rattle.buffer.specs.TestLaws.{and_false_first}
use Rattle.buffer.specs.Bytes.{zeros, part}
use Rattle.group.specs.Widths.{field_bytes}
use Rattle.model.specs.Layout.{view, store_bytes}
use Rattle.model.specs.Reads.{total_in}
use Rattle.model.specs.Sound.{sound}
use Rattle.model.specs.Numbers.{Call, teach, correct, erase, read, read_in_place, list, unit_out, repair, grow, shrink, raise, first_of, refusals_in, number_in}
use Rattle.model.specs.RowLaws.{first_low, free_first, numbered_in, row_holds, row_fails, row_pair}
use Rattle.model.specs.Perform.{refusal, plain, copied, lent, listed, output, reply, place_in}
use Rattle.model.specs.Perform.{given_in, granted_in, answer_in, after_in, outcome, perform, laid_out, lay_out_number, lay_out}
use Rattle.model.specs.Demand1.{Refuses, LaysOut}

-- ---- the numbers are those of the table

number_low : (s : List ℕ) (c : Call) → number_in s c ≤ 9
unfolding number_in
number_low s c = first_low (refusals_in (sound s) (view s) c) (numbered_in (sound s) (view s) c)

-- ---- a number other than 0

pub refused_output : {A : Type 0} (n : ℕ) (y out : List A) → n ≢ 0 → output n y out ≡ out
unfolding output
refused_output n y out e = pick-false (ne_eqb n 0 e) (y ++ drop (length y) out) out

pub refused_reply : (s : List ℕ) (c : Call) (n : ℕ) (y : List ℕ) (m : ℕ) → number_in s c ≡ n → n ≢ 0 → reply c n y m ≡ refusal c n
unfolding reply refusal number_in refusals_in first_of
refused_reply s (teach k x) n y m e z = refl
refused_reply s (correct k x) n y m e z = refl
refused_reply s (erase k) n y m e z = refl
refused_reply s (read k out) n y m e z = ap (copied n) (refused_output n y out z)
refused_reply s (read_in_place k) n y m e z = absurd (z (sym e))
refused_reply s (list out) n y m e z = ap₂ (listed n) (pick-false (ne_eqb n 0 z) m 0) (refused_output n y out z)
refused_reply s (unit_out w) n y m e z = refl
refused_reply s (repair g) n y m e z = refl
refused_reply s grow n y m e z = refl
refused_reply s shrink n y m e z = refl
refused_reply s raise n y m e z = refl

pub refused_as : (s : List ℕ) (c : Call) (n : ℕ) → number_in s c ≡ n → n ≢ 0 → perform s c ≡ outcome (refusal c n) s
unfolding perform answer_in after_in
refused_as s c n e z =
    ap₂ outcome (ap (λ (k : ℕ). reply c k (given_in s c) (total_in (view s))) e ∙ refused_reply s c n (given_in s c) (total_in (view s)) e z)
    (pick-false (ne_eqb (number_in s c) 0 (λ q. z (sym e ∙ q))) (granted_in s c) s)

-- ---- the part read in place is empty where the read is refused

pub part_none : (s : List ℕ) → part 0 0 s ≡ []
unfolding part
part_none s = refl

pub in_place_store : (s : List ℕ) (k : ℕ) → (perform s (read_in_place k)).store ≡ s
unfolding perform after_in number_in refusals_in first_of granted_in
in_place_store s k = pick_true refl s s

pub in_place_none : (s : List ℕ) (k : ℕ) → number_in s (read k (zeros field_bytes)) ≢ 0 → (n : ℕ) → perform s (read_in_place k) ≡ outcome (refusal (read_in_place k) n) s
unfolding perform answer_in reply given_in place_in refusal
in_place_none s k z n =
    ap₂ outcome (ap lent (rw (and_false_first (ne_eqb (number_in s (read k (zeros field_bytes))) 0 z)) (rw (pick-false refl) (part_none s)))) (in_place_store s k)

-- ---- a damaged store

-- where the number is not the first row's, that row does not hold
not_first : (t : Bool) (n : ℕ) (ts : List (Bool × ℕ)) → first_of ((t, n) ∷ ts) ≢ n → t ≡ false
not_first true n ts z = absurd (z (row_holds n ts refl))
not_first false n ts z = refl

module _ (s : List ℕ) where
  -- a call with one row of 2, and one with two
  one_row : {ok : Bool} (t : Bool) (ts : List (Bool × ℕ)) → first_of ((t, 2) ∷ (not ok, 1) ∷ ts) ≢ 2 → ok ≡ false → first_of ((t, 2) ∷ (not ok, 1) ∷ ts) ≡ 1
  one_row t ts z d = row_fails _ _ (not_first t 2 _ z) ∙ row_holds _ _ (ap not d)

  two_rows : {ok : Bool} (a b : Bool) (ts : List (Bool × ℕ)) → first_of ((a, 2) ∷ (b, 2) ∷ (not ok, 1) ∷ ts) ≢ 2 → ok ≡ false
      → first_of ((a, 2) ∷ (b, 2) ∷ (not ok, 1) ∷ ts) ≡ 1
  two_rows a b ts z d = row_pair a b 2 _ ∙ one_row (a || b) ts (λ e. z (row_pair a b 2 _ ∙ e)) d

  read_damaged : (k : ℕ) (out : List ℕ) → sound s ≡ false → number_in s (read k out) ≢ 0
  unfolding number_in refusals_in
  read_damaged k out d q =
      let one : number_in s (read k out) ≡ 1 = two_rows (eqb k 0) (not (eqb (length out) field_bytes)) _ (λ e. absurd (omega (arith, sym q ∙ e))) d in
      absurd (omega (arith, sym q ∙ one))

  damaged : (c : Call) → sound s ≡ false → number_in s c ≢ 2 → perform s c ≡ outcome (refusal c 1) s
  unfolding number_in refusals_in
  damaged (teach k x) d z = refused_as s (teach k x) 1 (two_rows (eqb k 0) (not (eqb (length x) field_bytes)) _ z d) (omega arith)
  damaged (correct k x) d z = refused_as s (correct k x) 1 (two_rows (eqb k 0) (not (eqb (length x) field_bytes)) _ z d) (omega arith)
  damaged (erase k) d z = refused_as s (erase k) 1 (one_row (eqb k 0) _ z d) (omega arith)
  damaged (read k out) d z = refused_as s (read k out) 1 (two_rows (eqb k 0) (not (eqb (length out) field_bytes)) _ z d) (omega arith)
  damaged (read_in_place k) d z = in_place_none s k (read_damaged k (zeros field_bytes) d) 1
  damaged (list out) d z = refused_as s (list out) 1 (row_holds _ _ (ap not d)) (omega arith)
  damaged (unit_out w) d z = refused_as s (unit_out w) 1 (one_row (ltb 27 w) _ z d) (omega arith)
  damaged (repair g) d z = refused_as s (repair g) 1 (one_row (ltb 3 g) _ z d) (omega arith)
  damaged grow d z = refused_as s grow 1 (row_holds _ _ (ap not d)) (omega arith)
  damaged shrink d z = refused_as s shrink 1 (row_holds _ _ (ap not d)) (omega arith)
  damaged raise d z = refused_as s raise 1 (row_holds _ _ (ap not d)) (omega arith)

  pub refuses : (c : Call) → Refuses s c
  refuses c = record { numbered = number_low s c; refused = λ z. refused_as s c (number_in s c) refl z; damaged = damaged c }

-- ---- lay out

layout_as : (s : List ℕ) (b n : ℕ) → lay_out_number s b ≡ n → n ≢ 0 → lay_out s b ≡ outcome (plain n) s
unfolding lay_out
layout_as s b n e z = ap₂ outcome (ap plain e) (pick-false (ne_eqb (lay_out_number s b) 0 (λ q. z (sym e ∙ q))) (laid_out b s) s)

granted_layout : (s : List ℕ) (b : ℕ) → lay_out_number s b ≡ 0 → lay_out s b ≡ outcome (plain 0) (laid_out b s)
unfolding lay_out
granted_layout s b e = ap₂ outcome (ap plain e) (pick_true (eq-eqb (lay_out_number s b) 0 e) (laid_out b s) s)

pub lays_out : (s : List ℕ) (b : ℕ) → LaysOut s b
unfolding lay_out_number
lays_out s b = record {
  numbered = first_low ((ltb b 1, 2) ∷ (ltb 64 b, 2) ∷ (ltb (length s) (store_bytes b), 7) ∷ []) (refl, (refl, (refl, tt)));
  refused = λ z. layout_as s b (lay_out_number s b) refl z;
  misused = λ e. layout_as s b 2 (row_pair (ltb b 1) (ltb 64 b) 2 _ ∙ row_holds _ _ e) (omega arith);
  short = λ e l. layout_as s b 7 (row_pair (ltb b 1) (ltb 64 b) 2 _ ∙ row_fails _ _ e ∙ row_holds _ _ (lt-ltb (length s) (store_bytes b) l)) (omega arith);
  granted = λ least most long.
      granted_layout s b
      (row_fails _ _ (le-ltb b 1 least) ∙ row_fails _ _ (le-ltb 64 b most) ∙ row_fails _ _ (le-ltb (length s) (store_bytes b) long) ∙ free_first [] tt);
}
