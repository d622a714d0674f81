-- Growing in two strokes, on any bytes.
use Prim.Native.Nat.{ℕ, ◌≤◌, ◌<◌}
use mathlib.Core.Path.{◌≡◌, refl, sym, ap, ◌∙◌, subst}
use mathlib.Core.Logic.{◌≢◌, inl, inr}
use mathlib.Core.List.{List, ◌++◌}
use mathlib.Core.Option.{none, some}
use mathlib.Core.Bool.{Bool, true, false, not}
use native.Mathlib.Omega.{arith}
use lib.Dec.{eqb, ltb}
use lib.ListN.{length, take, drop, get_or, length-append}
use lib.Seq.{take_at}
use borrow.Author.Tests.{eq-eqb, ne_eqb, eqb-true, eqb-false, lt-ltb, le-ltb, ltb-true, ltb-false, not-true, not-false}
use Rattle.buffer.specs.Choice.{pick}
use Rattle.buffer.specs.ChoiceLaws.{by-test, by-pick, pick_true, pick-false, pick_same}
use Rattle.buffer.specs.TestLaws.{not-both}
use Rattle.buffer.specs.Range.{count}
use Rattle.buffer.specs.RangeLaws.{count_ext, count_le, length_entries, get_or_entries}
use Rattle.buffer.specs.Bytes.{zeros}
use Rattle.group.specs.Widths.{slot_bytes}
use Rattle.moves.specs.declared.Move.{Move}
use Rattle.moves.specs.Moves.{no_move, same_moves}
use Rattle.moves.proofs.MovesLaws.{same_moves_lem, moves_same}
use Rattle.model.specs.Units.{split_pointer, moves}
use Rattle.model.specs.UnitLaws.{split_below}
use Rattle.model.specs.Layout.{Store, view, units_in, key_of}
use Rattle.model.specs.Reads.{fill_in}
use Rattle.model.proofs.ReadLaws.{fill_le}
use Rattle.model.specs.Sound.{sound}
use Rattle.model.proofs.SoundSays.{units_some}
use Rattle.model.specs.Numbers.{grow, first_of, refusals_in, number_in}
use Rattle.model.specs.RowLaws.{lacks_first, free_first, front_holds, front_free, front_granted, numbered_in}
use Rattle.model.specs.Changes.{filter_by, records_in, dealt, grown}
use Rattle.model.specs.Perform.{planned, output, perform}
use Rattle.model.specs.MadeAnew.{left_by}
use Rattle.model.specs.Planning.{TellsOf, TwoStrokes}
use Rattle.model.specs.history.Plan.{leaves, move_in, plan_in}
use Rattle.model.specs.history.Further.{plan, commit, counts_as, plan_rows, commit_rows, plan_reply, further_refusals_in, further_number_in, further_answer_in}
use Rattle.model.specs.history.Steps.{further, counted_in, store_left, step_answer_in, perform_step}
use Rattle.model.proofs.history.ledger.Dealt.{length_rows, get_d_rows, filter_place}
use Rattle.model.proofs.Left.{free, grow_sound, grow_room, grow_left}

module _ (s : List ℕ) where
  abbrev v : Store
  v = view s

  abbrev m : ℕ
  m = units_in (view s)

  abbrev n : ℕ
  n = split_pointer (units_in (view s))

  abbrev fill : ℕ
  fill = fill_in (view s) (split_pointer (units_in (view s)))

  -- ---- the plan is what a grow does

  -- a record for whose key a test holds stands behind those before it for which it does
  placed : (p : ℕ → Bool) (r : ℕ) → r < fill → p (key_of (v.slot n r)) ≡ true
      → get_or (filter_by (λ x. p (key_of x)) (records_in v n)) (count r (λ q. p (key_of (v.slot n q)))) (zeros slot_bytes) ≡ v.slot n r
  unfolding records_in
  placed p r a e =
      let z : List ℕ = zeros slot_bytes in
      let at : (q : ℕ) → q < fill → get_or (records_in v n) q z ≡ v.slot n q = get_d_rows fill (v.slot n) z in
      ap (λ (k : ℕ). get_or (filter_by (λ x. p (key_of x)) (records_in v n)) k z)
      (count_ext r _ _ (λ q b. ap (λ x. p (key_of x)) (sym (at q (omega (arith, a))))))
      ∙ (filter_place (λ x. p (key_of x)) z (records_in v n) r (omega (arith, a, length_rows fill (v.slot n))) (ap (λ x. p (key_of x)) (at r a) ∙ e)).1
      ∙ at r a

  module _ (zero : number_in s grow ≡ 0) where
    before : n < m
    before = split_below m (units_some s (grow_sound s zero))

    -- what a grow leaves at a place
    left_at : (u r : ℕ) → u < 16 → r < v.size → (left_by s grow).slot u r ≡ dealt v m u r
    unfolding grown
    left_at u r a b = (grow_left s zero).slot u r a b

    moved : (r : ℕ) → r < fill → leaves v r ≡ true → (left_by s grow).slot m (count r (leaves v)) ≡ v.slot n r
    unfolding dealt leaves
    moved r a e =
        left_at m (count r (leaves v)) (grow_room s zero) (omega (arith, a, count_le r (leaves v), fill_le v n))
        ∙ pick_true (eq-eqb m m refl) _ _
        ∙ placed (moves m) r a e

    stayed : (r : ℕ) → r < fill → leaves v r ≡ false → (left_by s grow).slot n (count r (λ q. not (leaves v q))) ≡ v.slot n r
    unfolding dealt leaves
    stayed r a e =
        left_at n (count r (λ q. not (leaves v q))) (omega (arith, before, grow_room s zero))
        (omega (arith, a, count_le r (λ q. not (leaves v q)), fill_le v n))
        ∙ pick-false (ne_eqb n m (λ q. omega (arith, before))) _ _
        ∙ pick_true (eq-eqb n n refl) _ _
        ∙ placed (λ k. not (moves m k)) r a (ap not e)

  tells : (r : ℕ) → r < fill → TellsOf s r (move_in (view s) r)
  unfolding move_in
  tells r a =
      by-pick (TellsOf s r) (leaves v r) _ _
      (λ e. record { old_unit = refl; old_rank = refl; new_unit = inr refl; rank = count r (leaves v); new_rank = refl; stands = λ z. moved z r a e })
      (λ e. record {
        old_unit = refl;
        old_rank = refl;
        new_unit = inl refl;
        rank = count r (λ q. not (leaves v q));
        new_rank = refl;
        stands = λ z. stayed z r a e;
      })

  entry : (r : ℕ) → r < fill → get_or (plan_in v) r no_move ≡ move_in v r
  unfolding plan_in
  entry r a = get_or_entries fill (move_in v) r no_move a

  -- ---- the calls

  abbrev rows : List (Bool × ℕ)
  rows = refusals_in (sound s) (view s) grow

  asked : (lent : List Move) → (perform_step s (further (plan lent))).store ≡ s
  unfolding perform_step counted_in counts_as store_left
  asked lent = ap (store_left s) (pick_same (eqb (further_number_in s (plan lent)) 0) none)

  -- where a grow is refused
  as_grow : (more : List (Bool × ℕ)) → number_in s grow ≢ 0 → first_of (rows ++ more) ≡ number_in s grow
  unfolding number_in
  as_grow more z = front_holds rows more z

  both_as_grow : number_in s grow ≢ 0 → (lent : List Move) (c : ℕ)
      → (further_number_in s (plan lent) ≡ number_in s grow) × (further_number_in s (commit lent c) ≡ number_in s grow)
  unfolding further_number_in further_refusals_in
  both_as_grow z lent c = (as_grow _ z, as_grow _ z)

  -- the number of asking, where a grow is granted
  asking : number_in s grow ≡ 0 → (lent : List Move) → further_number_in s (plan lent) ≡ pick (ltb (length lent) (length (plan_in v))) 7 0
  unfolding further_number_in further_refusals_in plan_rows first_of
  asking z lent = front_free rows _ (free s grow z)

  -- a grow gives no 7
  grow_not_7 : number_in s grow ≢ 7
  unfolding number_in refusals_in
  grow_not_7 = lacks_first 7 (λ q. omega arith) _ (refl, (refl, (refl, (refl, tt))))

  short : (lent : List Move) → further_number_in s (plan lent) ≡ 7 → (number_in s grow ≡ 0) × (length lent < length (plan_in (view s)))
  short lent e =
      by-test (λ _. (number_in s grow ≡ 0) × (length lent < length (plan_in (view s)))) (eqb (number_in s grow) 0)
      (λ q.
      let z : number_in s grow ≡ 0 = eqb-true _ 0 q in (
        z,
        by-pick (λ (n : ℕ). n ≡ 7 → length lent < length (plan_in v)) (ltb (length lent) (length (plan_in v))) 7 0
            (λ f _. ltb-true _ _ f) (λ _ f. absurd (omega (arith, f))) (sym (asking z lent) ∙ e),
      ))
      (λ q. absurd (grow_not_7 (sym (both_as_grow (eqb-false _ 0 q) lent 0).0 ∙ e)))

  -- the number of a commit, where a grow is granted
  behind : number_in s grow ≡ 0 → (lent : List Move) (c : ℕ) → further_number_in s (commit lent c) ≡ first_of (commit_rows lent c (plan_in v))
  unfolding further_number_in further_refusals_in
  behind z lent c = front_free rows (commit_rows lent c (plan_in v)) (free s grow z)

  -- it is 0 where the list is the plan, and else 11
  by_commit : number_in s grow ≡ 0 → (lent : List Move) (c : ℕ) (P : ℕ → Type 0) → (c ≤ length lent → take c lent ≡ plan_in (view s) → P 0)
      → ((c ≤ length lent → take c lent ≡ plan_in (view s) → ⊥) → P 11) → P (further_number_in s (commit lent c))
  unfolding commit_rows first_of
  by_commit z lent c P same other =
      subst P (sym (behind z lent c)) (by-pick P (ltb (length lent) c) 11 _
      (λ e. other (λ a _. omega (arith, a, ltb-true (length lent) c e)))
      (λ e. by-pick P (not (same_moves (take c lent) (plan_in v))) 11 0
      (λ f. other (λ _ q. not-both (ap (λ ms. same_moves ms (plan_in v)) q ∙ moves_same (plan_in v)) (not-true _ f)))
      (λ f. same (ltb-false (length lent) c e) (same_moves_lem (take c lent) (plan_in v) (not-false _ f)))))

  -- where asking or a commit is granted, a grow is
  grow_granted : (more : List (Bool × ℕ)) → first_of (rows ++ more) ≡ 0 → number_in s grow ≡ 0
  unfolding number_in
  grow_granted more e = free_first rows (front_granted rows more (numbered_in (sound s) (view s) grow) e)

  grants_grow : (lent : List Move) (c : ℕ) → further_number_in s (commit lent c) ≡ 0 → number_in s grow ≡ 0
  unfolding further_number_in further_refusals_in
  grants_grow lent c = grow_granted _

  asking_grows : (lent : List Move) → further_number_in s (plan lent) ≡ 0 → number_in s grow ≡ 0
  unfolding further_number_in further_refusals_in
  asking_grows lent = grow_granted _

  is_plan : (lent : List Move) (c : ℕ) → further_number_in s (commit lent c) ≡ 0 → (c ≤ length lent) × (take c lent ≡ plan_in (view s))
  is_plan lent c e =
      by_commit (grants_grow lent c e) lent c (λ k. k ≡ 0 → (c ≤ length lent) × (take c lent ≡ plan_in (view s)))
      (λ a q _. (a, q)) (λ _ f. absurd (omega arith)) e

  the_plan : number_in s grow ≡ 0 → (lent : List Move) (c : ℕ) → c ≤ length lent → take c lent ≡ plan_in (view s) → further_number_in s (commit lent c) ≡ 0
  the_plan z lent c a q = by_commit z lent c (λ k. k ≡ 0) (λ _ _. refl) (λ d. absurd (d a q))

  grown_store : (lent : List Move) (c : ℕ) → further_number_in s (commit lent c) ≡ 0 → (perform_step s (further (commit lent c))).store ≡ (perform s grow).store
  unfolding perform_step counted_in counts_as store_left
  grown_store lent c e = ap (store_left s) (pick_true (eq-eqb (further_number_in s (commit lent c)) 0 e) (some grow) none)

  -- asking, then committing what it wrote
  planned_same : {i j k l : ℕ} {xs ys : List Move} → planned i j xs ≡ planned k l ys → (i ≡ k) × (j ≡ l) × (xs ≡ ys)
  planned_same e = (cc, cc, cc)

  as_asked : (lent ms : List Move) (c : ℕ) → (perform_step s (further (plan lent))).answer ≡ planned 0 c ms → further_number_in s (commit ms c) ≡ 0
  unfolding perform_step step_answer_in further_answer_in plan_reply output
  as_asked lent ms c e =
      let same = planned_same e in
      let zero : eqb (further_number_in s (plan lent)) 0 ≡ true = eq-eqb _ 0 same.0 in
      let long : length (plan_in v) ≡ c = sym (pick_true zero (length (plan_in v)) 0) ∙ same.1 in
      let whole : plan_in v ++ drop (length (plan_in v)) lent ≡ ms = sym (pick_true zero _ lent) ∙ same.2 in
      the_plan (asking_grows lent same.0) ms c
      (omega (arith, long, ap length whole, length-append (plan_in v) (drop (length (plan_in v)) lent)))
      (ap (take c) (sym whole) ∙ take_at (plan_in v) (drop (length (plan_in v)) lent) c long)

-- ANY BYTES
pub two_strokes : (s : List ℕ) → TwoStrokes s
unfolding plan_in
two_strokes s = record {
  asked = asked s;
  entries = length_entries (fill s) (move_in (view s));
  tells = λ r a. subst (TellsOf s r) (sym (entry s r a)) (tells s r a);
  as_grow = both_as_grow s;
  short = λ lent. (short s lent, λ h. asking s h.0 lent ∙ pick_true (lt-ltb _ _ h.1) 7 0);
  long_enough = λ lent z l. asking s z lent ∙ pick-false (le-ltb _ _ l) 7 0;
  granted = λ lent c e. (grants_grow s lent c e, (is_plan s lent c e).0, (is_plan s lent c e).1, grown_store s lent c e);
  the_plan = the_plan s;
  not_the_plan = λ z lent c d. by_commit s z lent c (λ k. k ≡ 11) (λ a q. absurd (d a q)) (λ _. refl);
  as_asked = as_asked s;
}
