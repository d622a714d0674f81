-- What was taught is kept, over every list of base calls.
use Prim.Native.Nat.{ℕ, ◌*◌, ◌≤◌}
use mathlib.Core.Path.{◌≡◌, sym, ap, ◌∙◌}
use mathlib.Core.List.{List}
use mathlib.Core.Option.{none, some}
use native.Mathlib.Omega.{arith}
use lib.Dec.{ltb, leb}
use lib.ListN.{length, drop}
use Rattle.buffer.specs.Choice.{pick}
use Rattle.model.specs.Layout.{view, store_bytes, units_in}
use Rattle.model.specs.Numbers.{Call, read, repair, first_of, number_in}
use Rattle.model.specs.Perform.{copied, perform, lay_out_number, lay_out}
use Rattle.model.specs.Field.{stamped}
use Rattle.model.proofs.FieldLaws.{body_back, stamp_back}
use Rattle.model.specs.GrantedLayout.{layout_granted}
use Rattle.model.specs.history.Ledger.{Ledger, opened, home, key_beyond_of, beyond_of}
use Rattle.model.specs.history.Picture.{picture}
use Rattle.model.specs.history.Table.{refusals, number}
use Rattle.model.specs.history.Answers.{final}
use Rattle.model.specs.history.Runs.{final_in, alone_in, all_granted, last_taught, as_taught}
use Rattle.model.specs.history.Typed.{AllTyped}
use Rattle.model.specs.history.Claims.{HasParts, Unlost, ReadsAsTaught, TaughtWith, HandsBackBoth, BeyondRecovery, KeepsTaught}
use Rattle.group.specs.Widths.{field_bytes}
use Rattle.model.proofs.history.ledger.Valid.{Valid}
use Rattle.model.proofs.history.taught.Recorded.{recorded}
use Rattle.model.proofs.history.taught.Taught.{last_taught_by, recorded_final, recorded_opened, read_tells}
use Rattle.model.proofs.history.picture.Seen.{units_seen, state_seen}
use Rattle.model.proofs.history.calls.Simulation.{number_agrees, answer_agrees}
use Rattle.model.proofs.history.calls.Opened.{layout_is, layout_picture, opened_valid}
use Rattle.model.proofs.history.calls.Read.{read_simulated}
use Rattle.model.proofs.history.calls.Repair.{repair_simulated}
use Rattle.model.proofs.history.alone.Lossless.{lossless, alone, all_granted_by, final_lossless, alone_again, lossless_opened, lossless_state, alone_typed}
use Rattle.model.proofs.history.alone.Unlost.{lossless_valid, same_unit}
use Rattle.model.proofs.history.claims.History.{Run, ordered_of, run}
use Rattle.model.proofs.history.claims.HandedBack.{lent_in_place, listed_as_entry}

-- ---- on the picture of a valid ledger

module _ (l : Ledger) (rest : List ℕ) (h : Valid l) where
  -- a read tells what the ledger holds for the key
  tells : (k : ℕ) → 1 ≤ k → (out : List ℕ) → length out ≡ field_bytes
      → (perform (picture l rest) (read k out)).answer ≡ pick (key_beyond_of l k) (copied 8 out) (as_taught out (recorded l k))
  tells k a out fits =
      answer_agrees l rest (read k out) (read_simulated l rest h k out)
      ∙ read_tells l (ordered_of l h) k (omega arith) out fits (λ r. (h.good (home l k) r).field.size)

  -- a repair is refused as beyond recovery exactly where it is
  repairs : (g : ℕ) → number_in (picture l rest) (repair g)
      ≡ pick (ltb 3 g) 2 (pick (leb (units_in (view (picture l rest))) (4 * g)) 3 (pick (beyond_of l g) 8 0))
  unfolding number refusals first_of pick
  repairs g =
      number_agrees l rest (repair g) (repair_simulated l rest h g)
      ∙ ap (λ (n : ℕ). pick (ltb 3 g) 2 (pick (leb n (4 * g)) 3 (pick (beyond_of l g) 8 0))) (sym (units_seen l rest h))

-- ---- from a granted layout

module _ (s : List ℕ) (b : ℕ) (zero : lay_out_number s b ≡ 0) where
  pub start : (lay_out s b).store ≡ picture (opened b) (drop (store_bytes b) s)
  start = layout_is s b zero ∙ layout_picture b s

  pub opened_is : Valid (opened b)
  opened_is = opened_valid b (layout_granted s b zero).least (layout_granted s b zero).most

module _ (s : List ℕ) (b : ℕ) (zero : lay_out_number s b ≡ 0) (cs : List Call) (typed : AllTyped cs) where
  abbrev rest : List ℕ
  rest = drop (store_bytes b) s

  abbrev laid : List ℕ
  laid = (lay_out s b).store

  abbrev left : List ℕ
  left = final_in (lay_out s b).store cs

  abbrev end : Ledger
  end = final (opened b) cs

  pub whole : Run (opened b) (drop (store_bytes b) s) cs
  whole = run cs (opened b) rest (opened_is s b zero) typed

  -- the lasting calls alone
  lasting : Run (opened b) (drop (store_bytes b) s) (alone (opened b) cs)
  lasting = run (alone (opened b) cs) (opened b) rest (opened_is s b zero) (alone_typed cs (opened b) typed)

  pub left_is : final_in (lay_out s b).store cs ≡ picture (final (opened b) cs) (drop (store_bytes b) s)
  left_is = ap (λ (x : List ℕ). final_in x cs) (start s b zero) ∙ whole.left

  alone_is : alone_in (lay_out s b).store cs ≡ alone (opened b) cs
  alone_is = ap (λ (x : List ℕ). alone_in x cs) (start s b zero) ∙ whole.alone

  alone_left : final_in (lay_out s b).store (alone_in (lay_out s b).store cs) ≡ picture (lossless end) rest
  alone_left =
      ap (final_in (lay_out s b).store) alone_is
      ∙ ap (λ (x : List ℕ). final_in x (alone (opened b) cs)) (start s b zero)
      ∙ lasting.left
      ∙ ap (λ (l : Ledger). picture l rest) (ap (λ (l : Ledger). final l (alone (opened b) cs)) (sym (lossless_opened b)) ∙ final_lossless cs (opened b))

  unlost : Unlost laid cs left end
  unlost = record {
    again =
        ap (all_granted (lay_out s b).store) alone_is
        ∙ ap (λ (x : List ℕ). all_granted x (alone (opened b) cs)) (start s b zero)
        ∙ lasting.granted
        ∙ ap (λ (l : Ledger). all_granted_by l (alone (opened b) cs)) (sym (lossless_opened b))
        ∙ alone_again cs (opened b);
    serves = λ w a. rw (alone_left, left_is) (λ e.
        state_seen (lossless end) rest (lossless_valid end whole.valid) w a ∙ lossless_state end w (sym (state_seen end rest whole.valid w a) ∙ e));
    holds = λ w a. rw (alone_left, left_is) (λ e. same_unit end rest whole.valid w a (sym (state_seen end rest whole.valid w a) ∙ e));
  }

  -- the ledger holds for a key what was last taught
  stands : (k : ℕ) → recorded end k ≡ last_taught k (lay_out s b).store cs none
  stands k =
      recorded_final k cs (opened b) whole.ordered
      ∙ ap (last_taught_by k (opened b) cs) (recorded_opened b k)
      ∙ sym (ap (λ (x : List ℕ). last_taught k x cs none) (start s b zero) ∙ whole.taught k none)

  reads_as_taught : ReadsAsTaught laid cs left end
  reads_as_taught k a out fits = rw (left_is, ← (stands k)) (tells end rest whole.valid k a out fits)

  -- body and stamp as taught
  with_stamps : (k : ℕ) (body : List ℕ) (stamp : ℕ) → TaughtWith laid cs left end k body stamp → HandsBackBoth laid cs left end k body stamp
  unfolding as_taught pick
  with_stamps k body stamp t =
      let x : List ℕ = stamped body stamp in
      let held : recorded end k ≡ some x = stands k ∙ t.last in
      let both : HasParts body stamp x = (body_back body stamp t.long, stamp_back body stamp t.long t.small) in
      record {
        by_read = λ out fits ok. (x, reads_as_taught k t.key out fits ∙ rw (ok, t.last), both);
        in_place = rw left_is (λ on. (x, lent_in_place end rest whole.valid k x held t.key on, both));
        by_list = rw left_is (λ out zero.
            let e = listed_as_entry end rest whole.valid k x held out zero in (e.0, e.1, e.2, x, e.3, e.4, e.5, both));
      }

  beyond_recovery : BeyondRecovery laid cs left end
  beyond_recovery g = rw left_is (repairs end rest whole.valid g)

  pub keeps_taught : KeepsTaught (lay_out s b).store cs (final_in (lay_out s b).store cs) (final (opened b) cs)
  keeps_taught = record { unlost = unlost; reads_as_taught = reads_as_taught; with_stamps = with_stamps; beyond_recovery = beyond_recovery }
