-- What one call owes on a picture, and what follows of it: number, answer, bytes, and a valid ledger again.
use Prim.Native.Nat.{ℕ}
use mathlib.Core.Path.{◌≡◌, sym, ap, ◌∙◌}
use mathlib.Core.List.{List}
use mathlib.Core.Bool.{Bool}
use lib.Dec.{eqb}
use Rattle.buffer.specs.ChoiceLaws.{by-test, by-pick}
use Rattle.model.specs.Layout.{view}
use Rattle.model.specs.Reads.{total_in}
use Rattle.model.specs.Sound.{sound}
use Rattle.model.specs.Numbers.{Call, refusals_in, number_in}
use Rattle.model.specs.RowLaws.{Agree, Free, agree_first}
use Rattle.model.specs.Perform.{reply, given_in, granted_in, answer_in, after_in, perform}
use Rattle.model.specs.history.Ledger.{Ledger, total, granted}
use Rattle.model.specs.history.Picture.{picture}
use Rattle.model.specs.history.Table.{refusals, number}
use Rattle.model.specs.history.Answers.{given, answer, after}
use borrow.Author.Tests.{eqb-false}
use mathlib.Core.Logic.{◌≢◌}
use Rattle.model.proofs.Refusals.{refused_reply}
use Rattle.model.proofs.history.ledger.Valid.{Valid}
use Rattle.model.proofs.history.ledger.Granted.{granted_free, granted_after, refused_after}

pub record Simulated (l : Ledger) (rest : List ℕ) (c : Call) : Type 0 where
  pub tests : Agree (refusals_in (sound (picture l rest)) (view (picture l rest)) c) (refusals l c)
  pub hands : Free (refusals l c) → given_in (picture l rest) c ≡ given l c
  pub counts : Free (refusals l c) → (n : ℕ) (y : List ℕ) → reply c n y (total_in (view (picture l rest))) ≡ reply c n y (total l)
  pub bytes : Free (refusals l c) → granted_in (picture l rest) c ≡ picture (granted l c) rest
  pub valid : Free (refusals l c) → Valid (granted l c)

module _ (l : Ledger) (rest : List ℕ) (c : Call) (h : Simulated l rest c) where
  pub number_agrees : number_in (picture l rest) c ≡ number l c
  unfolding number_in number
  number_agrees = agree_first (refusals_in (sound (picture l rest)) (view (picture l rest)) c) (refusals l c) h.tests

  answers_agree : answer_in (picture l rest) c ≡ answer l c
  unfolding answer_in answer
  answers_agree =
      rw number_agrees (by-test (λ (t : Bool). reply c (number l c) (given_in (picture l rest) c) (total_in (view (picture l rest)))
      ≡ reply c (number l c) (given l c) (total l)) (eqb (number l c) 0)
      (λ e. rw (h.hands (granted_free l c e)) (h.counts (granted_free l c e) (number l c) (given l c)))
      (λ e.
      let z : number l c ≢ 0 = eqb-false (number l c) 0 e in
      refused_reply (picture l rest) c (number l c) (given_in (picture l rest) c) (total_in (view (picture l rest))) number_agrees z
      ∙ sym (refused_reply (picture l rest) c (number l c) (given l c) (total l) number_agrees z)))

  afters_agree : after_in (picture l rest) c ≡ picture (after l c) rest
  unfolding after_in
  afters_agree = rw number_agrees (by-pick (λ (x : List ℕ). x ≡ picture (after l c) rest) (eqb (number l c) 0) (granted_in (picture l rest) c) (picture l rest)
      (λ e. h.bytes (granted_free l c e) ∙ ap (λ (m : Ledger). picture m rest) (sym (granted_after l c e)))
      (λ e. ap (λ (m : Ledger). picture m rest) (sym (refused_after l c e))))

  pub answer_agrees : (perform (picture l rest) c).answer ≡ answer l c
  unfolding perform
  answer_agrees = answers_agree

  pub after_agrees : (perform (picture l rest) c).store ≡ picture (after l c) rest
  unfolding perform
  after_agrees = afters_agree

  pub after_valid : Valid l → Valid (after l c)
  unfolding after
  after_valid v = by-pick Valid (eqb (number l c) 0) (granted l c) l (λ e. h.valid (granted_free l c e)) (λ e. v)
