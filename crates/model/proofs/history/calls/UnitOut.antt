-- Unit out: the unit is marked out and its bytes are zeroed.
use Prim.Native.Nat.{ℕ, ◌+◌, ◌<◌}
use mathlib.Core.Path.{◌≡◌, refl, sym, ap, ◌∙◌}
use mathlib.Core.List.{List}
use mathlib.Core.Bool.{true, false}
use native.Mathlib.Omega.{arith}
use lib.Dec.{eqb, ltb}
use borrow.Author.Tests.{eqb-true, eqb-false, ltb-false, not-false}
use Rattle.buffer.specs.Choice.{pick}
use Rattle.buffer.specs.ChoiceLaws.{by-pick, pick_true}
use Rattle.buffer.specs.TestLaws.{not-both}
use Rattle.buffer.specs.Bytes.{zeros}
use Rattle.buffer.specs.Table.{upd}
use Rattle.buffer.specs.TableLaws.{upd-at, upd_other}
use Rattle.group.specs.Widths.{slot_bytes, check_bytes}
use Rattle.model.specs.Layout.{Store, view, bytes}
use Rattle.model.specs.LayoutLaws.{Same, bytes_ext}
use Rattle.model.specs.Numbers.{unit_out, refusals_in}
use Rattle.model.specs.RowLaws.{row}
use Rattle.model.specs.Changes.{unit_lost}
use Rattle.model.specs.Perform.{reply, given_in, granted_in}
use Rattle.model.specs.history.Ledger.{Ledger, record_at, placed, state, granted}
use Rattle.model.specs.history.Picture.{picture_slot, picture_check, image, picture}
use Rattle.model.specs.history.Table.{refusals}
use Rattle.model.specs.history.Answers.{given}
use Rattle.model.proofs.history.ledger.Valid.{Valid, marked_valid}
use Rattle.model.proofs.history.ledger.States.{state_none}
use Rattle.model.proofs.history.picture.Picture.{seen, slot_off, check_off}
use Rattle.model.proofs.history.picture.Seen.{state_seen}
use Rattle.model.proofs.history.calls.Simulation.{Simulated}
use Rattle.model.proofs.history.calls.OneList.{sound_row}

-- ---- the ledger with unit w out, w being in place

module _ (l : Ledger) (w : ℕ) (there : eqb (state l w) 0 ≡ false) where
  in_place : placed l w ≡ true
  in_place = not-false (placed l w) (sym (state_none l w) ∙ there)

  out_hit : (i : ℕ) → i ≡ w → state (granted l (unit_out w)) i ≡ 2
  unfolding state placed granted
  out_hit i e = rw (upd-at l.out w true i e, e) (pick_true in_place (pick true 2 1) 0 ∙ pick_true refl 2 1)

  out_miss : (i : ℕ) → (i ≡ w → ⊥) → state (granted l (unit_out w)) i ≡ state l i
  unfolding state placed granted
  out_miss i n = rw (upd_other l.out w true i n)

  -- its bytes are zero, all others as before
  slot_hit : (u r : ℕ) → u ≡ w → picture_slot (granted l (unit_out w)) u r ≡ zeros slot_bytes
  slot_hit u r e = slot_off (granted l (unit_out w)) u r (ap (λ (n : ℕ). eqb n 1) (out_hit u e))

  slot_miss : (u r : ℕ) → (u ≡ w → ⊥) → picture_slot (granted l (unit_out w)) u r ≡ picture_slot l u r
  unfolding picture_slot record_at granted
  slot_miss u r n = rw (out_miss u n)

  check_hit : (c r : ℕ) → 16 + c ≡ w → picture_check (granted l (unit_out w)) c r ≡ zeros check_bytes
  check_hit c r e = check_off (granted l (unit_out w)) c r (ap (λ (n : ℕ). eqb n 1) (out_hit (16 + c) e))

  check_miss : (c r : ℕ) → (16 + c ≡ w → ⊥) → picture_check (granted l (unit_out w)) c r ≡ picture_check l c r
  unfolding picture_check record_at granted
  check_miss c r n = rw (out_miss (16 + c) n)

  module _ (rest : List ℕ) (h : Valid l) where
    abbrev v : Store
    v = view (picture l rest)

    s : Same (view (picture l rest)) (image l rest)
    s = seen l rest h.good

    out_picture : bytes (unit_lost v w) ≡ picture (granted l (unit_out w)) rest
    unfolding unit_lost image granted upd
    out_picture = bytes_ext (unit_lost v w) (image (granted l (unit_out w)) rest) (record {
      front = s.front;
      size = s.size;
      dstate = λ u b. by-pick (λ (n : ℕ). n ≡ state (granted l (unit_out w)) u) (eqb u w) 2 (v.dstate u)
          (λ e. sym (out_hit u (eqb-true u w e))) (λ e. s.dstate u b ∙ sym (out_miss u (eqb-false u w e)));
      cstate = λ c b. by-pick (λ (n : ℕ). n ≡ state (granted l (unit_out w)) (16 + c)) (eqb (16 + c) w) 2 (v.cstate c)
          (λ e. sym (out_hit (16 + c) (eqb-true (16 + c) w e))) (λ e. s.cstate c b ∙ sym (out_miss (16 + c) (eqb-false (16 + c) w e)));
      slot = λ u r b d. by-pick (λ (x : List ℕ). x ≡ picture_slot (granted l (unit_out w)) u r) (eqb u w) (zeros slot_bytes) (v.slot u r)
          (λ e. sym (slot_hit u r (eqb-true u w e))) (λ e. s.slot u r b d ∙ sym (slot_miss u r (eqb-false u w e)));
      check = λ c r b d. by-pick (λ (x : List ℕ). x ≡ picture_check (granted l (unit_out w)) c r) (eqb (16 + c) w) (zeros check_bytes) (v.check c r)
          (λ e. sym (check_hit c r (eqb-true (16 + c) w e))) (λ e. s.check c r b d ∙ sym (check_miss c r (eqb-false (16 + c) w e)));
      rest = s.rest;
    })

    out_valid : Valid (granted l (unit_out w))
    unfolding granted
    out_valid = marked_valid l _ h (λ i e. upd_other l.out w true i (λ d. not-both (ap (placed l) d ∙ in_place) e) ∙ h.calm i e)

module _ (l : Ledger) (rest : List ℕ) (h : Valid l) where
  pub unit_out_simulated : (w : ℕ) → Simulated l rest (unit_out w)
  unfolding reply refusals_in refusals granted granted_in given given_in
  unit_out_simulated w = record {
    tests =
        row refl (λ e. row (sound_row l rest h) (λ _.
        row (rw (state_seen l rest h w (low e))) (λ _. row (rw (state_seen l rest h w (low e))) (λ _. tt))));
    hands = λ f. refl;
    counts = λ f n y. refl;
    bytes = λ f. out_picture l w f.1.1.0 rest h;
    valid = λ f. out_valid l w f.1.1.0 rest h;
  }
    where
      low : ltb 27 w ≡ false → w < 28
      low e = omega (arith, ltb-false 27 w e)
