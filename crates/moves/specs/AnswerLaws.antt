-- Laws of the answer to asking for a plan, and of the list that is filled with it.
use Rattle.std.specs.Prelude.{◌≡◌, refl, List, ◌++◌, ℕ, eqb, ltb, length, take, drop, Result, Ok, Err}
use Rattle.std.proofs.Common.{sym}
use Rattle.std.proofs.Math.Seq.{take-length}
use Rattle.buffer.specs.Choice.{pick}
use Rattle.buffer.specs.ChoiceLaws.{by-pick, pick-map, pick-false}
use Rattle.refusal.specs.declared.Refusal.{Refusal}
use Rattle.refusal.specs.declared.Refusal.TheVariants.{NoRoom}
use Rattle.refusal.specs.Number.{number, count}
use Rattle.refusal.specs.NumberLaws.{refused}
use Rattle.moves.specs.declared.Move.{Move}
use Rattle.moves.specs.Answers.{answer_of, made, asked}

pub answer_number : (n : ℕ) (ms : List Move) → number (answer_of n ms) ≡ pick (ltb n (length ms)) 7 0
unfolding answer_of
answer_number n ms = pick-map (λ (a : Result ℕ Refusal). number a) (ltb n (length ms)) _ _

-- a proof about it, by cases: the list too short, granted
by_answer : (P : Result ℕ Refusal → Type 0) (n : ℕ) (ms : List Move) → P (Err NoRoom) → P (Ok (length ms)) → P (answer_of n ms)
unfolding answer_of
by_answer P n ms short granted = by-pick P (ltb n (length ms)) _ _ (λ _. short) (λ _. granted)

pub answer_count : (n : ℕ) (ms : List Move) → count (answer_of n ms) ≡ pick (eqb (number (answer_of n ms)) 0) (length ms) 0
answer_count n ms =
    by_answer (λ a. count a ≡ pick (eqb (number a) 0) (length ms) 0) n ms (unfold pick in refl) (unfold pick in refl)

pub answer_filled : (l ms : List Move) → take (count (answer_of (length l) ms)) ms ++ drop (count (answer_of (length l) ms)) l
    ≡ pick (eqb (number (answer_of (length l) ms)) 0) (ms ++ drop (length ms) l) l
answer_filled l ms =
    by_answer (λ a. take (count a) ms ++ drop (count a) l ≡ pick (eqb (number a) 0) (ms ++ drop (length ms) l) l) (length l) ms
    (unfold pick in refl) (unfold pick in rw take-length)

-- ---- the same where making the plan may have been refused
pub asked_number : (n : ℕ) (plan : Result (List Move) Refusal) → number (asked n plan)
    ≡ pick (eqb (number plan) 0) (pick (ltb n (length (made plan))) 7 0) (number plan)
asked_number n (Ok ms) = unfold pick in answer_number n ms
asked_number n (Err refusal) = sym (pick-false (refused refusal) _ _)

pub asked_count : (n : ℕ) (plan : Result (List Move) Refusal) → count (asked n plan) ≡ pick (eqb (number (asked n plan)) 0) (length (made plan)) 0
asked_count n (Ok ms) = answer_count n ms
asked_count n (Err refusal) = sym (pick-false (refused refusal) _ _)

pub asked_filled : (l : List Move) (plan : Result (List Move) Refusal)
    → take (count (asked (length l) plan)) (made plan) ++ drop (count (asked (length l) plan)) l
    ≡ pick (eqb (number (asked (length l) plan)) 0) (made plan ++ drop (length (made plan)) l) l
asked_filled l (Ok ms) = answer_filled l ms
asked_filled l (Err refusal) = sym (pick-false (refused refusal) _ _)
