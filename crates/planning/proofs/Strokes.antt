-- What asking and committing come to.
use Rattle.std.specs.Prelude.{ℕ, ◌≡◌, ◌≢◌, refl, List, [], ◌∷◌, ◌++◌, Bool, true, false, not, ◌&&◌, ◌||◌, eqb, ltb, length, take, drop, Result}
use Rattle.std.proofs.Common.{sym, ap, ◌∙◌, eq-eqb, ne_eqb, eqb-true, arith}
use mathlib.Core.Option.{none, some}
use Rattle.buffer.specs.Choice.{pick}
use Rattle.buffer.specs.ChoiceLaws.{by-test, pick_true, pick-false, pick_same}
use Rattle.buffer.specs.RangeLaws.{length_entries}
use Rattle.buffer.specs.Bytes.{byte}
use Rattle.refusal.specs.declared.Refusal.{Refusal}
use Rattle.refusal.specs.declared.Refusal.TheVariants.{NotSound, BadArgument, NotInPlace, UnitOut, KeyTaught, KeyNotTaught, NoRoom, BeyondRecovery, AtTheLimit, NotThePlan}
use Rattle.refusal.specs.Number.{code, number, count}
use Rattle.moves.specs.declared.Move.{Move}
use Rattle.moves.specs.declared.plan.Plan.{Plan}
use Rattle.moves.specs.Moves.{same_moves}
use Rattle.moves.specs.Drafts.{moves_of}
use Rattle.moves.specs.DraftLaws.{length_moves}
use Rattle.moves.specs.Answers.{answer_of}
use Rattle.moves.specs.AnswerLaws.{answer_number, answer_count, answer_filled}
use Rattle.model.specs.Units.{split_pointer}
use Rattle.model.specs.Layout.{view}
use Rattle.model.specs.StoreLaws.{units_of}
use Rattle.model.specs.Reads.{fill_in}
use Rattle.model.specs.Sound.{sound}
use Rattle.model.specs.Numbers.{grow, first_of, refusals_in, number_in}
use Rattle.model.specs.RowLaws.{Free, first_free, free_first, front_holds, front_free, by_front, front_granted, row_holds, row_fails, row_pair, numbered_in}
use Rattle.model.specs.Perform.{plain, planned, output, outcome, granted_in, after_in, perform}
use Rattle.model.specs.history.Plan.{move_in, plan_in}
use Rattle.model.specs.history.Further.{plan, commit, counts_as, plan_rows, commit_rows, plan_reply, further_refusals_in, further_number_in, further_answer_in}
use Rattle.model.specs.history.Steps.{further, counted_in, store_left, step_answer_in, perform_step}

-- each refusal has a number
pub refused_number : (e : Refusal) → code e ≢ 0
refused_number NotSound p = omega arith
refused_number BadArgument p = omega arith
refused_number NotInPlace p = omega arith
refused_number UnitOut p = omega arith
refused_number KeyTaught p = omega arith
refused_number KeyNotTaught p = omega arith
refused_number NoRoom p = omega arith
refused_number BeyondRecovery p = omega arith
refused_number AtTheLimit p = omega arith
refused_number NotThePlan p = omega arith

module _ (s : List ℕ) where
  abbrev rows : List (Bool × ℕ)
  rows = refusals_in (sound s) (view s) grow

  abbrev moves : List Move
  moves = plan_in (view s)

  -- where a grow is granted, none of its rows holds
  free : number_in s grow ≡ 0 → Free rows
  unfolding number_in
  free z = first_free rows (numbered_in (sound s) (view s) grow) z

  -- ---- asking with the list l
  module _ (l : List Move) where
    plan_number : pick (eqb (number_in s grow) 0) (pick (ltb (length l) (length moves)) 7 0) (number_in s grow) ≡ further_number_in s (plan l)
    unfolding further_number_in further_refusals_in number_in plan_rows first_of
    plan_number =
        by_front (λ n. pick (eqb (number_in s grow) 0) (pick (ltb (length l) (length moves)) 7 0) (number_in s grow) ≡ n) rows (plan_rows l moves)
        (numbered_in (sound s) (view s) grow)
        (λ z. pick-false (ne_eqb (number_in s grow) 0 z) _ _)
        (λ f. pick_true (eq-eqb (number_in s grow) 0 (free_first rows f)) _ _)

    plan_ends : {n k : ℕ} {m : List Move} → n ≡ further_number_in s (plan l) → k ≡ pick (eqb n 0) (length moves) 0
        → m ≡ pick (eqb n 0) (moves ++ drop (length moves) l) l → outcome (planned n k m) s ≡ perform_step s (further (plan l))
    unfolding perform_step step_answer_in further_answer_in counted_in counts_as store_left plan_reply output
    plan_ends e f g = rw (g, f, e) (ap (outcome _) (ap (store_left s) (sym (pick_same (eqb (further_number_in s (plan l)) 0) none))))

    pub plan_refused : {n : ℕ} → n ≡ number_in s grow → n ≢ 0 → outcome (planned n 0 l) s ≡ perform_step s (further (plan l))
    plan_refused {n} e z =
        let no : eqb n 0 ≡ false = ne_eqb n 0 z in
        plan_ends (e ∙ sym (pick-false (ne_eqb _ 0 (λ q. z (e ∙ q))) _ _) ∙ plan_number) (sym (pick-false no _ 0)) (sym (pick-false no _ l))

    pub plan_given : number_in s grow ≡ 0 → {ms : List Move} {r : Result ℕ Refusal} {m : List Move} → ms ≡ moves → r ≡ answer_of (length l) ms
        → m ≡ take (count r) ms ++ drop (count r) l → outcome (planned (number r) (count r) m) s ≡ perform_step s (further (plan l))
    plan_given z em er e =
        rw (e, er, em)
        (plan_ends (answer_number (length l) moves ∙ sym (pick_true (eq-eqb _ 0 z) _ _) ∙ plan_number) (answer_count (length l) moves) (answer_filled l moves))

  -- ---- committing the first c entries of l
  module _ (l : List Move) (c : ℕ) where
    -- these are the plan
    abbrev agreed : Bool
    agreed = not (ltb (length l) c) && same_moves (take c l) moves

    either : (a b : Bool) → not (not a && b) ≡ (a || not b)
    either true b = refl
    either false b = refl

    commit_number : first_of (rows ++ ((not agreed, 11) ∷ [])) ≡ further_number_in s (commit l c)
    unfolding further_number_in further_refusals_in commit_rows
    commit_number =
        by_front (λ n. first_of (rows ++ ((not agreed, 11) ∷ [])) ≡ n) rows _ (numbered_in (sound s) (view s) grow)
        (λ z. front_holds rows _ z)
        (λ f. front_free rows _ f ∙ ap (λ t. first_of ((t, 11) ∷ [])) (either (ltb (length l) c) _) ∙ sym (row_pair (ltb (length l) c) _ 11 []))

    -- granted, it counts as a grow, which is granted too
    grown : further_number_in s (commit l c) ≡ 0 → granted_in s grow ≡ (perform s grow).store
    unfolding further_number_in further_refusals_in perform after_in number_in
    grown e =
        let zero : first_of rows ≡ 0 = free_first rows (front_granted rows _ (numbered_in (sound s) (view s) grow) e) in
        sym (pick_true (eq-eqb (first_of rows) 0 zero) (granted_in s grow) s)

    left : pick (eqb (further_number_in s (commit l c)) 0) (granted_in s grow) s ≡ store_left s (counted_in s (further (commit l c)))
    unfolding counted_in counts_as store_left
    left =
        by-test (λ t. eqb (further_number_in s (commit l c)) 0 ≡ t → pick t (granted_in s grow) s ≡ store_left s (pick t (some grow) none))
        (eqb (further_number_in s (commit l c)) 0)
        (λ _ e. unfold pick in grown (eqb-true (further_number_in s (commit l c)) 0 e))
        (λ _ e. unfold pick in refl)
        refl

    commit_ends : {n : ℕ} {t : List ℕ} → n ≡ first_of (rows ++ ((not agreed, 11) ∷ [])) → t ≡ pick (eqb n 0) (granted_in s grow) s
        → outcome (plain n) t ≡ perform_step s (further (commit l c))
    unfolding perform_step step_answer_in further_answer_in
    commit_ends e f = rw (f, e, commit_number) (ap (outcome (plain (further_number_in s (commit l c)))) left)

    pub commit_refused : {n : ℕ} → n ≡ number_in s grow → n ≢ 0 → outcome (plain n) s ≡ perform_step s (further (commit l c))
    unfolding number_in
    commit_refused {n} e z = commit_ends (e ∙ sym (front_holds rows _ (λ q. z (e ∙ q)))) (sym (pick-false (ne_eqb n 0 z) (granted_in s grow) s))

    module _ (z : number_in s grow ≡ 0) {ms : List Move} (em : ms ≡ moves) {same : Bool} (es : same ≡ (not (ltb (length l) c) && same_moves (take c l) ms)) where
      is : same ≡ agreed
      is = es ∙ rw em

      pub not_agreed : same ≡ false → outcome (plain 11) s ≡ perform_step s (further (commit l c))
      not_agreed e =
          commit_ends (sym (front_free rows _ (free z) ∙ row_holds 11 [] (ap not (sym is ∙ e)))) (sym (pick-false refl (granted_in s grow) s))

      pub grows : same ≡ true → {t : List ℕ} → t ≡ granted_in s grow → outcome (plain 0) t ≡ perform_step s (further (commit l c))
      grows e f =
          commit_ends (sym (front_free rows _ (free z) ∙ row_fails 11 [] (ap not (sym is ∙ e)) ∙ free_first [] tt)) (f ∙ sym (pick_true refl (granted_in s grow) s))

  -- ---- how many records the split unit has
  pub counts : (p : Plan) → moves_of p ≡ moves → p.count ≡ fill_in (view s) (split_pointer (byte s 6))
  unfolding plan_in
  counts p e =
      sym (length_moves p) ∙ ap length e ∙ length_entries _ (move_in (view s))
      ∙ ap (λ (m : ℕ). fill_in (view s) (split_pointer m)) (sym (units_of s))
