-- At the end of a history, in every store that it leaves: the length, the next call and the records.
use Prim.Native.Nat.{ℕ}
use mathlib.Core.Path.{◌≡◌, refl, ◌∙◌}
use mathlib.Core.List.{List, [], ◌∷◌, ◌++◌}
use native.Mathlib.Omega.{arith}
use lib.ListN.{drop, length-drop}
use Rattle.model.specs.Layout.{store_bytes}
use Rattle.model.specs.Numbers.{Call}
use Rattle.model.specs.Perform.{perform, lay_out}
use Rattle.model.specs.GrantedLayout.{layout_granted}
use Rattle.model.specs.history.Ledger.{Ledger, opened}
use Rattle.model.specs.history.Picture.{picture}
use Rattle.model.specs.history.Answers.{after, final}
use Rattle.model.specs.history.Runs.{final_in}
use Rattle.model.specs.history.Typed.{Typed, AllTyped}
use Rattle.model.specs.history.Leaves.{History, ledger_after, followed, Leaves, AtEnd}
use Rattle.model.proofs.history.ledger.Valid.{Valid}
use Rattle.model.proofs.history.ledger.Granted.{after_size}
use Rattle.model.proofs.history.picture.Picture.{length_picture}
use Rattle.model.proofs.history.calls.Simulation.{answer_agrees}
use Rattle.model.proofs.history.calls.List.{records_seen}
use Rattle.model.proofs.history.claims.History.{simulated}
use Rattle.model.proofs.history.claims.KeepsTaught.{whole, left_is}

-- a list of calls with one more: the store at its end, and what the types give
final_followed : (cs : List Call) (s : List ℕ) (c : Call) → final_in s (cs ++ (c ∷ [])) ≡ (perform (final_in s cs) c).store
unfolding final_in
final_followed [] s c = refl
final_followed (x ∷ cs) s c = final_followed cs (perform s x).store c

typed_followed : (cs : List Call) (c : Call) → AllTyped cs → Typed c → AllTyped (cs ++ (c ∷ []))
typed_followed [] c a t = (t, tt)
typed_followed (x ∷ cs) c a t = (a.0, typed_followed cs c a.1 t)

-- the ranks of a unit stay as the layout made them
final_size : (cs : List Call) (l : Ledger) → (final l cs).size ≡ l.size
unfolding final
final_size [] l = refl
final_size (c ∷ cs) l = final_size cs (after l c) ∙ after_size l c

module _ (slice : List ℕ) (h : History) (s : List ℕ) (e : Leaves slice h s) where
  abbrev l : Ledger
  l = ledger_after h

  abbrev rest : List ℕ
  rest = drop (store_bytes h.ranks) slice

  -- the ledger at the end is valid, the store is its picture, and its units have the ranks of the layout
  valid : Valid l
  unfolding ledger_after
  valid = (whole slice h.ranks e.granted h.calls e.typed).valid

  shown : s ≡ picture l rest
  unfolding ledger_after
  shown = e.left ∙ left_is slice h.ranks e.granted h.calls e.typed

  size : l.size ≡ h.ranks
  unfolding ledger_after opened
  size = final_size h.calls (opened h.ranks)

  -- EVERY STORE THAT A HISTORY LEAVES
  pub at_end : AtEnd slice h s
  unfolding followed
  at_end = record {
    long =
        rw (shown, length_picture l rest valid.good, size)
        (omega (arith, length-drop (store_bytes h.ranks) slice, (layout_granted slice h.ranks e.granted).long));
    answered = λ c t. rw shown (answer_agrees l rest c (simulated l rest valid c t));
    next = λ c t. record {
      granted = e.granted;
      typed = typed_followed h.calls c e.typed t;
      left = rw (e.left, final_followed h.calls (lay_out slice h.ranks).store c);
    };
    records = λ ok. rw shown (records_seen l rest valid ok);
  }
