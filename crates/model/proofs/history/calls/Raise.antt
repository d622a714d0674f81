-- Raise on a picture: each group in place gets a check unit, and what is left is the picture of the ledger with the higher level.
use Prim.Native.Nat.{ℕ, suc, ◌+◌, ◌*◌, ◌/◌, ◌%◌, ◌<◌}
use mathlib.Core.Path.{◌≡◌, refl, sym, ap, ◌∙◌}
use mathlib.Core.List.{List}
use mathlib.Core.Bool.{Bool, true, false, ◌&&◌}
use native.Mathlib.Omega.{arith}
use native.Mathlib.Nat.{le_refl}
use lib.Dec.{eqb, ltb, leb}
use lib.ListN.{set}
use borrow.Author.Tests.{eq-eqb, eqb-true, eqb-false, ltb-true, le-ltb, lt-ltb, leb-false}
use Rattle.buffer.specs.Choice.{pick}
use Rattle.buffer.specs.ChoiceLaws.{by-pick}
use Rattle.buffer.specs.TestLaws.{and_first, and_second, and_ext, and_false_second, ltb_suc}
use Rattle.buffer.specs.RangeLaws.{none_counted}
use Rattle.buffer.specs.Bytes.{byte, bytes32}
use Rattle.group.specs.CheckRecord.{check_record}
use Rattle.model.specs.Layout.{Store, view, bytes, front_of, level_in}
use Rattle.model.specs.LayoutLaws.{Same, bytes_ext}
use Rattle.model.specs.Reads.{units_out_in}
use Rattle.model.specs.Numbers.{raise, refusals_in}
use Rattle.model.specs.RowLaws.{row}
use Rattle.model.specs.Changes.{added, raised}
use Rattle.model.specs.Perform.{reply, given_in, granted_in}
use Rattle.model.specs.history.Ledger.{Ledger, record_at, placed, is_out, state, units_out, granted}
use Rattle.model.specs.history.Picture.{picture_slot, picture_check, image, picture}
use Rattle.model.specs.history.Table.{refusals}
use Rattle.model.specs.history.Answers.{given}
use Rattle.model.proofs.history.ledger.Valid.{Valid}
use Rattle.model.proofs.history.ledger.States.{fewer_placed, placed_check, data_state, check_state}
use Rattle.model.proofs.history.picture.Records.{anew_over}
use Rattle.model.proofs.history.picture.Picture.{seen, check_on}
use Rattle.model.proofs.history.picture.Seen.{slot_kept, units_seen, level_seen, units_out_seen}
use Rattle.model.proofs.history.calls.Simulation.{Simulated}
use Rattle.model.proofs.history.calls.OneList.{sound_row}

module _ (l : Ledger) (rest : List ℕ) (h : Valid l) where
  abbrev next : Ledger
  next = granted l raise

  abbrev v : Store
  v = view (picture l rest)

  s : Same (view (picture l rest)) (image l rest)
  s = seen l rest h.good

  raise_valid : l.level < 3 → Valid (granted l raise)
  unfolding granted record_at
  raise_valid a = record {
    some = h.some;
    few = h.few;
    least = h.least;
    most = h.most;
    levelled = omega arith;
    topped = a;
    fits = h.fits;
    good = h.good;
    keyed = h.keyed;
    own = h.own;
    differ = h.differ;
    none = h.none;
    calm = λ w e. h.calm w (fewer_placed l (granted l raise) (le_refl l.units) (omega arith) w e);
  }

  -- ---- states

  dstate_raised : (u : ℕ) → u < 16 → state next u ≡ state l u
  unfolding granted
  dstate_raised u a = data_state next u a ∙ sym (data_state l u a)

  -- an added check unit, which was not in place and so not marked out
  state_added : (c : ℕ) → 4 * (c / 3) < l.units → c % 3 ≡ l.level → state next (16 + c) ≡ 1
  unfolding granted pick
  state_added c a e =
      let off : placed l (16 + c) ≡ false =
      placed_check l c ∙ and_false_second (ltb (4 * (c / 3)) l.units) (le-ltb (c % 3) l.level (omega arith)) in
      check_state next c ∙ rw (lt-ltb (4 * (c / 3)) l.units a, lt-ltb (c % 3) (suc l.level) (omega arith), h.calm (16 + c) off)

  -- any other
  state_kept : (c : ℕ) → (ltb (4 * (c / 3)) l.units && eqb (c % 3) l.level) ≡ false → state l (16 + c) ≡ state next (16 + c)
  unfolding granted
  state_kept c e =
      let same : (ltb (4 * (c / 3)) l.units && ltb (c % 3) l.level) ≡ (ltb (4 * (c / 3)) l.units && ltb (c % 3) (suc l.level)) =
      and_ext (ltb (4 * (c / 3)) l.units) (ltb (c % 3) l.level) (ltb (c % 3) (suc l.level))
      (λ q. ltb_suc (c % 3) l.level (eqb-false (c % 3) l.level (sym (ap (λ (t : Bool). t && eqb (c % 3) l.level) q) ∙ e))) in
      check_state l c ∙ rw same (sym (check_state next c))

  added_seen : (c : ℕ) → added v c ≡ (ltb (4 * (c / 3)) l.units && eqb (c % 3) l.level)
  unfolding added
  added_seen c = rw (units_seen l rest h, level_seen l rest h)

  -- the tests by which a check unit is added
  by-added {ℓ} : {A : Type 0} (P : A → Type ℓ) (c : ℕ) (x y : A) → (4 * (c / 3) < l.units → c % 3 ≡ l.level → P x)
      → (state l (16 + c) ≡ state next (16 + c) → P y) → P (pick (added v c) x y)
  by-added P c x y one none =
      by-pick P (added v c) x y
      (λ e.
      let both : (ltb (4 * (c / 3)) l.units && eqb (c % 3) l.level) ≡ true = sym (added_seen c) ∙ e in
      one (ltb-true _ _ (and_first _ (eqb (c % 3) l.level) both)) (eqb-true _ _ (and_second (ltb (4 * (c / 3)) l.units) _ both)))
      (λ e. none (state_kept c (sym (added_seen c) ∙ e)))

  cstate_raised : (c : ℕ) → c < 12 → pick (added v c) 1 (v.cstate c) ≡ state next (16 + c)
  unfolding image
  cstate_raised c a =
      by-added (λ (i : ℕ). i ≡ state next (16 + c)) c 1 (v.cstate c) (λ i e. sym (state_added c i e)) (λ e. s.cstate c a ∙ e)

  -- ---- no unit is out

  module _ (none : ltb 0 (units_out l) ≡ false) where
    not_out : (w : ℕ) → w < 28 → is_out l w ≡ false
    unfolding units_out
    not_out w a = none_counted 28 (is_out l) none w a

    made : (c r : ℕ) → c < 12 → r < l.size → 4 * (c / 3) < l.units → c % 3 ≡ l.level
        → check_record (c % 3) (λ p. v.slot (4 * (c / 3) + p) r) ≡ picture_check next c r
    unfolding granted image record_at
    made c r a b i e =
        anew_over (c % 3) (λ p. v.slot (4 * (c / 3) + p) r) (λ p. record_at l (4 * (c / 3) + p) r) (λ p q.
        s.slot (4 * (c / 3) + p) r (omega arith) b
        ∙ slot_kept l h (4 * (c / 3) + p) r (omega arith) (not_out (4 * (c / 3) + p) (omega arith)))
        ∙ sym (check_on next c r (eq-eqb (state next (16 + c)) 1 (state_added c i e)))

    check_raised : (c r : ℕ) → c < 12 → r < l.size
        → pick (added v c) (check_record (c % 3) (λ p. v.slot (4 * (c / 3) + p) r)) (v.check c r) ≡ picture_check next c r
    check_raised c r a b =
        by-added (λ (x : List ℕ). x ≡ picture_check next c r) c _ (v.check c r) (λ i e. made c r a b i e)
        (λ e. unfold image picture_check granted record_at in s.check c r a b ∙ rw e)

    raise_picture : bytes (raised (view (picture l rest))) ≡ picture (granted l raise) rest
    unfolding raised granted level_in image front_of bytes32 picture_slot record_at
    raise_picture = bytes_ext (raised v) (image next rest) (record {
      front = ap (λ (x : List ℕ). set x 7 (suc (byte x 7))) s.front;
      size = s.size;
      dstate = λ u a. s.dstate u a ∙ sym (dstate_raised u a);
      cstate = cstate_raised;
      slot = λ u r a b. s.slot u r a b ∙ rw (dstate_raised u a);
      check = check_raised;
      rest = s.rest;
    })

  -- its two tests, in whatever order they stand
  level : leb 3 (level_in v) ≡ leb 3 l.level
  level = ap (leb 3) (level_seen l rest h)

  outs : ltb 0 (units_out_in v) ≡ ltb 0 (units_out l)
  outs = ap (ltb 0) (units_out_seen l rest h)

  pub raise_simulated : Simulated l rest raise
  unfolding reply refusals_in refusals granted granted_in given given_in
  raise_simulated = record {
    tests = row (sound_row l rest h) (λ _. row (search (level, outs)) (λ _. row (search (level, outs)) (λ _. tt)));
    hands = λ f. refl;
    counts = λ f n y. refl;
    bytes = λ f. raise_picture (search);
    valid = λ f. raise_valid (leb-false 3 l.level (search));
  }
