-- The ways out of a call that answers with a number alone: refused, it leaves the store as it was; granted, it leaves what it is to leave.
use Rattle.std.specs.Prelude.{ℕ, ◌≡◌, refl, Bool, List}
use Rattle.std.proofs.Common.{sym, ◌∙◌, eq-eqb, ne_eqb}
use Rattle.std.proofs.Math.Path.{ap}
use Rattle.buffer.specs.ChoiceLaws.{pick_true, pick-false}
use Rattle.model.specs.Layout.{Store, view}
use Rattle.model.specs.Sound.{sound}
use Rattle.model.specs.Numbers.{Call, first_of, refusals_in, number_in}
use Rattle.model.specs.RowLaws.{Free, first_free, numbered_in}
use Rattle.model.specs.Perform.{plain, reply, outcome, perform, answer_in, after_in, granted_in}

-- the calls that answer with a number alone
pub data Plain : Call → Type 0 where
  of_teach : {k : ℕ} {x : List ℕ} → Plain (Call.teach k x)
  of_correct : {k : ℕ} {x : List ℕ} → Plain (Call.correct k x)
  of_erase : {k : ℕ} → Plain (Call.erase k)
  of_out : {w : ℕ} → Plain (Call.unit_out w)
  of_repair : {g : ℕ} → Plain (Call.repair g)
  of_grow : Plain Call.grow
  of_shrink : Plain Call.shrink
  of_raise : Plain Call.raise

plain_reply : {c : Call} → Plain c → (n : ℕ) (y : List ℕ) (m : ℕ) → reply c n y m ≡ plain n
unfolding reply
plain_reply of_teach n y m = refl
plain_reply of_correct n y m = refl
plain_reply of_erase n y m = refl
plain_reply of_out n y m = refl
plain_reply of_repair n y m = refl
plain_reply of_grow n y m = refl
plain_reply of_shrink n y m = refl
plain_reply of_raise n y m = refl

-- the code's number r, from the store's rows with the test ok of its soundness
module _ (s : List ℕ) {c : Call} (alone : Plain c) {ok : Bool} {r : ℕ} (tested : ok ≡ sound s) (found : r ≡ first_of (refusals_in ok (view s) c)) where
  pub number_is : r ≡ number_in s c
  unfolding number_in
  number_is = found ∙ ap (λ t. first_of (refusals_in t (view s) c)) tested

  pub refused : (r ≡ 0 → ⊥) → outcome (plain r) s ≡ perform s c
  unfolding perform answer_in after_in
  refused h = rw (plain_reply alone, ← number_is, pick-false (ne_eqb r 0 h))

  pub granted : {s' : List ℕ} → r ≡ 0 → s' ≡ granted_in s c → outcome (plain 0) s' ≡ perform s c
  unfolding perform answer_in after_in
  granted z e = rw (plain_reply alone, ← number_is, z, e, pick_true (eq-eqb 0 0 refl))

-- where the number is 0, none of the call's rows holds
pub none_holds : (ok : Bool) (v : Store) (c : Call) (r : ℕ) → r ≡ first_of (refusals_in ok v c) → r ≡ 0 → Free (refusals_in ok v c)
none_holds ok v c r e z = first_free (refusals_in ok v c) (numbered_in ok v c) (sym e ∙ z)
