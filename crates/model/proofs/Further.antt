-- A further call on any bytes: its number, what it leaves where it is refused, and what it counts as where it is granted.
use Prim.Native.Nat.{ℕ}
use mathlib.Core.Path.{◌≡◌, refl, sym, ap, ap₂, ◌∙◌}
use mathlib.Core.Logic.{◌≢◌}
use mathlib.Core.List.{List, [], ◌∷◌}
use mathlib.Core.Option.{none}
use mathlib.Core.Bool.{Bool, true, false, not}
use native.Mathlib.Omega.{arith}
use lib.Dec.{eqb}
use borrow.Author.Tests.{ne_eqb}
use Rattle.buffer.specs.ChoiceLaws.{by-pick, pick-false}
use Rattle.model.specs.Layout.{view}
use Rattle.model.specs.Sound.{sound}
use Rattle.model.specs.Numbers.{first_of, refusals_in}
use Rattle.model.specs.RowLaws.{row_holds}
use Rattle.model.specs.Perform.{outcome}
use Rattle.model.specs.Demand1.{numbers_of, one_of, FurtherRefuses}
use Rattle.model.specs.history.Plan.{plan_in}
use Rattle.model.specs.history.Further.{Further, plan, commit, counts_as, plan_rows, commit_rows, further_refusals_in, further_number_in, further_answer_in}
use Rattle.model.specs.history.Further.{further_refusal}
use Rattle.model.specs.history.Steps.{further, counted_in, store_left, step_answer_in, perform_step}
use Rattle.model.proofs.history.steps.Planned.{refused_plan}

-- ---- what each of them owes

-- rows that give only these numbers, of which 0 is one, end in one of them
abbrev Give : List ℕ → List (Bool × ℕ) → Type 0
Give ns [] = Unit {0}
Give ns (t ∷ ts) = (one_of ns t.1 ≡ true) × Give ns ts

first_given : (ns : List ℕ) (ts : List (Bool × ℕ)) → one_of ns 0 ≡ true → Give ns ts → one_of ns (first_of ts) ≡ true
unfolding first_of
first_given ns [] z g = z
first_given ns (t ∷ ts) z g = by-pick (λ (n : ℕ). one_of ns n ≡ true) t.0 t.1 (first_of ts) (λ _. g.0) (λ _. first_given ns ts z g.1)

number_named : (s : List ℕ) (a : Further) → one_of (numbers_of a) (further_number_in s a) ≡ true
unfolding further_number_in further_refusals_in refusals_in plan_rows commit_rows numbers_of one_of
number_named s (plan lent) = first_given (numbers_of (plan lent)) _ refl (refl, (refl, (refl, (refl, (refl, tt)))))
number_named s (commit lent c) = first_given (numbers_of (commit lent c)) _ refl (refl, (refl, (refl, (refl, (refl, (refl, tt))))))

-- refused, it hands back nothing
answer_refused : (s : List ℕ) (a : Further) → eqb (further_number_in s a) 0 ≡ false → further_answer_in s a ≡ further_refusal a (further_number_in s a)
unfolding further_answer_in further_refusal
answer_refused s (plan lent) e = refused_plan lent (further_number_in s (plan lent)) (plan_in (view s)) e
answer_refused s (commit lent n) e = refl

-- a damaged store comes first, but for 2
number_damaged : (s : List ℕ) (a : Further) → sound s ≡ false → further_number_in s a ≢ 2 → further_number_in s a ≡ 1
unfolding further_number_in further_refusals_in refusals_in
number_damaged s (plan lent) e d = row_holds 1 _ (ap not e)
number_damaged s (commit lent n) e d = row_holds 1 _ (ap not e)

-- ---- what follows, of all of them alike

step_refused : (s : List ℕ) (a : Further) → eqb (further_number_in s a) 0 ≡ false
    → perform_step s (further a) ≡ outcome (further_refusal a (further_number_in s a)) s
unfolding perform_step step_answer_in counted_in store_left
step_refused s a e = ap₂ outcome (answer_refused s a e) (ap (store_left s) (pick-false e (counts_as a) none))

pub step_as : (s : List ℕ) (a : Further) (n : ℕ) → further_number_in s a ≡ n → n ≢ 0 → perform_step s (further a) ≡ outcome (further_refusal a n) s
step_as s a n e z = step_refused s a (ne_eqb (further_number_in s a) 0 (λ q. z (sym e ∙ q))) ∙ ap (λ (k : ℕ). outcome (further_refusal a k) s) e

pub further_refuses : (s : List ℕ) (a : Further) → FurtherRefuses s a
further_refuses s a = record {
  numbered = number_named s a;
  refused = λ z. step_as s a (further_number_in s a) refl z;
  damaged = λ e d. step_as s a 1 (number_damaged s a e d) (omega arith);
}
