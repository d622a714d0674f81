-- Shrink on a picture: the store that it leaves is the picture of the shrunk ledger.
use Prim.Native.Nat.{ℕ, suc, pred, ◌+◌, ◌*◌, ◌/◌, ◌%◌, ◌≤◌, ◌<◌}
use mathlib.Core.Path.{◌≡◌, refl, sym, ap, ◌∙◌}
use mathlib.Core.Logic.{inl, inr}
use mathlib.Core.List.{List, ◌++◌, map-append}
use mathlib.Core.Bool.{false}
use native.Mathlib.Omega.{arith}
use native.Mathlib.Nat.{le_refl}
use lib.Dec.{eqb, ltb, leb}
use lib.ListN.{length, get_or, set, get_or-map}
use borrow.Author.Tests.{leb-false, eqb-true, eqb-false, ltb-false, le-ltb}
use Rattle.buffer.specs.Choice.{pick}
use Rattle.buffer.specs.ChoiceLaws.{by-pick}
use Rattle.buffer.specs.TestLaws.{not-both, ltb_suc}
use Rattle.buffer.specs.Bytes.{bytes32, zeros}
use Rattle.buffer.specs.Table.{upd}
use Rattle.group.specs.Widths.{slot_bytes, check_bytes}
use Rattle.group.specs.CheckRecord.{check_record}
use Rattle.model.specs.Units.{split_pointer, touched, begins}
use Rattle.model.specs.Layout.{Store, bytes, view, front_of}
use Rattle.model.specs.LayoutLaws.{Same, bytes_ext}
use Rattle.model.specs.Reads.{fill_in, outs_in}
use Rattle.model.specs.Numbers.{shrink, refusals_in}
use Rattle.model.specs.RowLaws.{row}
use Rattle.model.specs.Changes.{records_in, merged, shrunk_state, shrunk}
use Rattle.model.specs.Perform.{reply, given_in, granted_in}
use Rattle.model.specs.history.Ledger.{Rec, empty, Ledger, record_at, placed, state, outs_of, shrunk_ledger, granted}
use Rattle.model.specs.history.Picture.{record_bytes, picture_slot, picture_check, image, picture}
use Rattle.model.specs.history.Table.{refusals}
use Rattle.model.specs.history.Answers.{given}
use Rattle.model.proofs.history.ledger.Valid.{Valid}
use Rattle.model.proofs.history.ledger.States.{data_state, check_state, place_kept}
use Rattle.model.proofs.history.ledger.Touched.{is_touched}
use Rattle.model.proofs.history.ledger.Shrunk.{both_lists, by-merged, before, valid_shrunk}
use Rattle.model.proofs.history.picture.Records.{empty_bytes}
use Rattle.model.proofs.history.picture.Picture.{seen, check_off}
use Rattle.model.proofs.history.picture.Seen.{size_seen, units_seen, outs_seen, serving, fill_seen}
use Rattle.model.proofs.history.picture.RecordsSeen.{records_seen}
use Rattle.model.proofs.history.calls.Simulation.{Simulated}
use Rattle.model.proofs.history.calls.OneList.{sound_row}
use Rattle.model.proofs.history.calls.Resized.{Resized, shows, slot_same, made, check_same, state_same}

module _ (l : Ledger) (rest : List ℕ) (h : Valid l) (m : ℕ) (is : l.units ≡ suc m) (pos : 1 ≤ m)
    (new : ltb 0 (outs_of l (m / 4)) ≡ false) (old : ltb 0 (outs_of l (split_pointer m / 4)) ≡ false)
    (fit : length (l.records (split_pointer m)) + length (l.records m) ≤ l.size) where
  abbrev n : ℕ
  n = split_pointer m

  abbrev next : Ledger
  next = shrunk_ledger l m

  abbrev v : Store
  v = view (picture l rest)

  s : Same (view (picture l rest)) (image l rest)
  s = seen l rest h.good

  top : m ≤ 15
  top = omega (arith, h.few)

  low : n < m
  low = before l h m is pos

  -- ---- slots

  merged_list : (r : ℕ) → get_or (records_in v n ++ records_in v m) r (zeros slot_bytes) ≡ record_bytes (get_or (both_lists l m) r empty)
  merged_list r =
      rw (
        records_seen l rest h n (omega (arith, low, top)) (serving l rest h n (omega (arith, low)) old),
        records_seen l rest h m (omega (arith, top)) (serving l rest h m (omega arith) new),
        ← (map-append record_bytes (l.records n) (l.records m)),
        ← empty_bytes,
      )
      (get_or-map record_bytes (both_lists l m) r empty)

  record_merged : (u r : ℕ) → u ≡ n → record_at next u r ≡ get_or (both_lists l m) r empty
  unfolding record_at
  record_merged u r e =
      by-merged l m (λ (xs : List Rec). get_or xs r empty ≡ get_or (both_lists l m) r empty) u (λ f. absurd (omega (arith, low))) (λ _ _. refl) (λ _ d. absurd (d e))

  record_kept : (u r : ℕ) → (u ≡ m → ⊥) → (u ≡ n → ⊥) → record_at next u r ≡ record_at l u r
  unfolding record_at
  record_kept u r a b =
      by-merged l m (λ (xs : List Rec). get_or xs r empty ≡ get_or (l.records u) r empty) u (λ e. absurd (a e)) (λ _ e. absurd (b e)) (λ _ _. refl)

  resized : Resized l (shrunk_ledger l m) m
  resized = record {
    before = h;
    after = valid_shrunk l h m is pos new old fit;
    new = new;
    old = old;
    marks = λ w. unfold shrunk_ledger in refl;
    kept = record_kept;
  }

  state_gone : state next m ≡ 0
  unfolding shrunk_ledger pick
  state_gone = data_state next m (omega (arith, top)) ∙ rw (le-ltb m m (le_refl m))

  state_old : (u : ℕ) → u < 16 → (u ≡ m → ⊥) → state next u ≡ state l u
  unfolding shrunk_ledger
  state_old u a e = data_state next u a ∙ rw (ltb_suc u m e, ← is) (sym (data_state l u a))

  slot_gone : (u r : ℕ) → u ≡ m → zeros slot_bytes ≡ picture_slot next u r
  unfolding picture_slot pick
  slot_gone u r e = rw (e, state_gone)

  slot_merged : (u r : ℕ) → u < 16 → u ≡ n → record_bytes (get_or (both_lists l m) r empty) ≡ picture_slot next u r
  slot_merged u r a e = ap record_bytes (sym (record_merged u r e)) ∙ sym (shows resized u r a (is_touched m (u / 4) (inr (ap (λ (i : ℕ). i / 4) e))))

  slot_shrunk : (u r : ℕ) → u < 16 → r < l.size → merged v m u r ≡ picture_slot next u r
  unfolding merged image
  slot_shrunk u r a b =
      by-pick (λ (x : List ℕ). x ≡ picture_slot next u r) (eqb u m) _ _
      (λ e. slot_gone u r (eqb-true u m e))
      (λ e. by-pick (λ (x : List ℕ). x ≡ picture_slot next u r) (eqb u n) _ _
      (λ f. merged_list r ∙ slot_merged u r a (eqb-true u n f))
      (λ f. s.slot u r a b ∙ slot_same resized u r (eqb-false u m e) (eqb-false u n f) (state_old u a (eqb-false u m e))))

  -- ---- states

  dstate_shrunk : (u : ℕ) → u < 16 → upd v.dstate m 0 u ≡ state next u
  unfolding upd image
  dstate_shrunk u a =
      by-pick (λ (i : ℕ). i ≡ state next u) (eqb u m) 0 (v.dstate u)
      (λ e. sym (ap (state next) (eqb-true u m e) ∙ state_gone))
      (λ e. s.dstate u a ∙ sym (state_old u a (eqb-false u m e)))

  check_gone : (c : ℕ) → 4 * (c / 3) ≡ m → state next (16 + c) ≡ 0
  unfolding shrunk_ledger pick
  check_gone c e = check_state next c ∙ rw (le-ltb (4 * (c / 3)) m (omega arith))

  place_same : (c : ℕ) → (4 * (c / 3) ≡ m → ⊥) → placed l (16 + c) ≡ placed next (16 + c)
  unfolding shrunk_ledger
  place_same c e = sym (place_kept next l m refl is refl c e)

  cstate_shrunk : (c : ℕ) → c < 12 → shrunk_state v m c ≡ state next (16 + c)
  unfolding shrunk_state begins image
  cstate_shrunk c a =
      by-pick (λ (i : ℕ). i ≡ state next (16 + c)) (eqb (4 * (c / 3)) m) 0 (v.cstate c)
      (λ e. sym (check_gone c (eqb-true (4 * (c / 3)) m e)))
      (λ e. s.cstate c a ∙ state_same resized c (place_same c (eqb-false (4 * (c / 3)) m e)))

  -- ---- check records

  check_shrunk : (c r : ℕ) → c < 12 → r < l.size
      → pick (touched m (c / 3)) (pick (eqb (state next (16 + c)) 1) (check_record (c % 3) (λ p. merged v m (4 * (c / 3) + p) r)) (zeros check_bytes))
      (v.check c r)
      ≡ picture_check next c r
  unfolding image
  check_shrunk c r a b =
      by-pick (λ (x : List ℕ). x ≡ picture_check next c r) (touched m (c / 3)) _ (v.check c r)
      (λ e. by-pick (λ (x : List ℕ). x ≡ picture_check next c r) (eqb (state next (16 + c)) 1) _ (zeros check_bytes)
      (λ f. made resized c r (λ u. merged v m u r) a (λ u i. slot_shrunk u r i b) e f)
      (λ f. sym (check_off next c r f)))
      (λ e. s.check c r a b ∙ check_same resized c r e (place_same c (λ d. not-both (is_touched m (c / 3) (inl (omega arith))) e)))

  pub shrink_picture : bytes (shrunk v m) ≡ picture (shrunk_ledger l m) rest
  unfolding shrunk image shrunk_ledger front_of bytes32
  shrink_picture = bytes_ext (shrunk v m) (image (shrunk_ledger l m) rest) (record {
    front = ap (λ (x : List ℕ). set x 6 m) s.front;
    size = s.size;
    dstate = dstate_shrunk;
    cstate = cstate_shrunk;
    slot = slot_shrunk;
    check = λ c r a b. rw (cstate_shrunk c a) (check_shrunk c r a b);
    rest = s.rest;
  })

-- ---- the call

-- the last unit, where there is more than one
last_unit : (u : ℕ) → 1 < u → u ≡ suc (pred u)
last_unit u a = omega arith

module _ (l : Ledger) (rest : List ℕ) (h : Valid l) (m : ℕ) (is : l.units ≡ suc m) (pos : 1 ≤ m) where
  -- the row "shrink that won't fit in b"
  fit_row : ltb 0 (outs_of l (m / 4)) ≡ false → ltb 0 (outs_of l (split_pointer m / 4)) ≡ false
      → ltb (view (picture l rest)).size (fill_in (view (picture l rest)) (split_pointer m) + fill_in (view (picture l rest)) m)
      ≡ ltb l.size (length (l.records (split_pointer m)) + length (l.records m))
  fit_row new old =
      let low : split_pointer m < m = before l h m is pos in
      rw (
        fill_seen l rest h (split_pointer m) (omega (arith, h.few)) (serving l rest h (split_pointer m) (omega arith) old),
        fill_seen l rest h m (omega (arith, h.few)) (serving l rest h m (omega arith) new),
        size_seen l rest h,
      )

  out_rows : (ltb 0 (outs_in (view (picture l rest)) (m / 4)) ≡ ltb 0 (outs_of l (m / 4)))
      × (ltb 0 (outs_in (view (picture l rest)) (split_pointer m / 4)) ≡ ltb 0 (outs_of l (split_pointer m / 4)))
  out_rows =
      let low : split_pointer m < m = before l h m is pos in
      (rw (outs_seen l rest h (m / 4) (omega (arith, h.few))), rw (outs_seen l rest h (split_pointer m / 4) (omega (arith, h.few))))

pub shrink_simulated : (l : Ledger) (rest : List ℕ) → Valid l → Simulated l rest shrink
unfolding reply refusals_in refusals granted granted_in given given_in
shrink_simulated l rest h = record {
  tests = rw (units_seen l rest h) (row (sound_row l rest h) (λ _. row refl (λ e.
      row (out_rows l rest h m (is e) (pos e)).0 (λ new. row (out_rows l rest h m (is e) (pos e)).1 (λ old.
      row (fit_row l rest h m (is e) (pos e) new old) (λ _. tt))))));
  hands = λ f. refl;
  counts = λ f n y. refl;
  bytes = λ f. rw (units_seen l rest h) (shrink_picture l rest h m (is f.1.0) (pos f.1.0) f.1.1.0 f.1.1.1.0 (fits f.1.1.1.1.0));
  valid = λ f. valid_shrunk l h m (is f.1.0) (pos f.1.0) f.1.1.0 f.1.1.1.0 (fits f.1.1.1.1.0);
}
  where
    m : ℕ
    m = pred l.units

    is : leb l.units 1 ≡ false → l.units ≡ suc (pred l.units)
    is e = last_unit l.units (leb-false l.units 1 e)

    pos : leb l.units 1 ≡ false → 1 ≤ pred l.units
    pos e = omega (arith, leb-false l.units 1 e)

    fits : ltb l.size (length (l.records (split_pointer (pred l.units))) + length (l.records (pred l.units))) ≡ false
        → length (l.records (split_pointer (pred l.units))) + length (l.records (pred l.units)) ≤ l.size
    fits e = ltb-false l.size (length (l.records (split_pointer (pred l.units))) + length (l.records (pred l.units))) e
