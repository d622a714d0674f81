-- Runs of functions that meet their contracts are runs of `perform_step`, so demand 3 holds of them.
use Prim.Native.Nat.{ℕ}
use mathlib.Core.Path.{◌≡◌, refl, sym, ap, ap₂, ◌∙◌}
use mathlib.Core.List.{List, ◌∷◌}
use Rattle.model.specs.Perform.{Answer, plain, Outcome, lay_out, lay_out_number}
use Rattle.model.specs.history.Steps.{Step, step_answers_in, steps_leave_in}
use Rattle.model.specs.history.Contracts.{Run, done, then, RunsAsLedger}
use Rattle.model.proofs.history.claims.Demand3.{outlives}

run_answers : {s e : List ℕ} {xs : List Step} {ys : List Answer} → Run s xs ys e → ys ≡ step_answers_in s xs
unfolding step_answers_in
run_answers done = refl
run_answers (then {xs = xs} q r) =
    ap₂ (λ (a : Answer) (ys : List Answer). a ∷ ys) (ap (λ (o : Outcome). o.answer) q)
    (run_answers r ∙ ap (λ (o : Outcome). step_answers_in o.store xs) q)

run_end : {s e : List ℕ} {xs : List Step} {ys : List Answer} → Run s xs ys e → e ≡ steps_leave_in s xs
unfolding steps_leave_in
run_end done = refl
run_end (then {xs = xs} q r) = run_end r ∙ ap (λ (o : Outcome). steps_leave_in o.store xs) q

plain_number : (n m : ℕ) → plain n ≡ plain m → n ≡ m
plain_number n m e = cc

pub runs_as_ledger : RunsAsLedger
unfolding lay_out
runs_as_ledger s l e b xs ys laid typed r =
    let zero : lay_out_number s b ≡ 0 = sym (plain_number 0 (lay_out_number s b) (ap (λ (o : Outcome). o.answer) laid)) in
    let start : l ≡ (lay_out s b).store = ap (λ (o : Outcome). o.store) laid in
    let holds = outlives s b zero xs typed in
    let answered = run_answers r ∙ ap (λ (x : List ℕ). step_answers_in x xs) start in
    let ended = run_end r ∙ ap (λ (x : List ℕ). steps_leave_in x xs) start in
    (answered ∙ holds.histories.answered, ended ∙ holds.histories.pictured, answered, ended, holds)
