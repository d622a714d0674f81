-- Grow on a picture: the store that it leaves is the picture of the grown ledger.
use Prim.Native.Nat.{ℕ, suc, ◌+◌, ◌*◌, ◌/◌, ◌%◌, ◌≤◌, ◌<◌}
use mathlib.Core.Path.{◌≡◌, refl, sym, ap, ◌∙◌}
use mathlib.Core.Logic.{◌⊎◌, inl, inr, ⊎_elim}
use mathlib.Core.List.{List, map}
use mathlib.Core.Bool.{Bool, true, false, ◌&&◌, not}
use native.Mathlib.Omega.{arith}
use native.Mathlib.Nat.{le_refl}
use lib.Dec.{eqb, ltb}
use lib.ListN.{get_or, set, get_or-map}
use borrow.Author.Tests.{leb-false, eqb-true, eqb-false, lt-ltb}
use Rattle.buffer.specs.Choice.{pick}
use Rattle.buffer.specs.ChoiceLaws.{by-pick, by-test}
use Rattle.buffer.specs.TestLaws.{not-both, ltb_suc, and_first, and_second}
use Rattle.buffer.specs.Bytes.{bytes32, zeros}
use Rattle.buffer.specs.Table.{upd}
use Rattle.group.specs.Widths.{slot_bytes}
use Rattle.group.specs.CheckRecord.{check_record}
use Rattle.model.specs.Units.{split_pointer, unit_of, moves, touched, begins}
use Rattle.model.specs.UnitLaws.{split_below}
use Rattle.model.specs.Layout.{Store, bytes, view, level_in, key_of, front_of}
use Rattle.model.specs.LayoutLaws.{Same, bytes_ext}
use Rattle.model.specs.Numbers.{grow, refusals_in}
use Rattle.model.specs.RowLaws.{row}
use Rattle.model.specs.Changes.{filter_by, records_in, dealt, grown_state, grown}
use Rattle.model.specs.Perform.{reply, given_in, granted_in}
use Rattle.model.specs.history.Ledger.{Rec, empty, Ledger, record_at, placed, state, outs_of, grown_ledger, granted}
use Rattle.model.specs.history.Picture.{record_bytes, picture_slot, picture_check, image, picture}
use Rattle.model.specs.history.Table.{refusals}
use Rattle.model.specs.history.Answers.{given}
use Rattle.model.proofs.history.ledger.Valid.{Valid}
use Rattle.model.proofs.history.ledger.States.{fewer_placed, data_state, check_state, place_kept}
use Rattle.model.proofs.history.ledger.Dealt.{filter_ext, filter_map}
use Rattle.model.proofs.history.ledger.Split.{not_moves}
use Rattle.model.proofs.history.ledger.Touched.{is_touched, quiet_data, quiet_check}
use Rattle.model.proofs.history.ledger.Grown.{goes_to, dealt_to, by-dealt, valid_grown}
use Rattle.model.proofs.history.picture.Records.{key_record_lem, empty_bytes}
use Rattle.model.proofs.history.picture.Picture.{seen, check_off}
use Rattle.model.proofs.history.picture.Seen.{units_seen, level_seen, outs_seen, serving}
use Rattle.model.proofs.history.picture.RecordsSeen.{records_seen}
use Rattle.model.proofs.history.calls.Simulation.{Simulated}
use Rattle.model.proofs.history.calls.OneList.{sound_row}
use Rattle.model.proofs.history.calls.Resized.{shows, slot_same, made, state_same, check_same, Resized}

-- a unit that is not out is in service where it is in place
serves : (k : Ledger) (w : ℕ) → k.out w ≡ false → eqb (state k w) 1 ≡ placed k w
unfolding state pick
serves k w e = rw e (go (placed k w))
  where
    go : (t : Bool) → eqb (pick t 1 0) 1 ≡ t
    go true = refl
    go false = refl

module _ (l : Ledger) (rest : List ℕ) (h : Valid l) (top : l.units ≤ 15)
    (new : ltb 0 (outs_of l (l.units / 4)) ≡ false) (old : ltb 0 (outs_of l (split_pointer l.units / 4)) ≡ false) where
  abbrev m : ℕ
  m = l.units

  abbrev n : ℕ
  n = split_pointer l.units

  abbrev rs : List Rec
  rs = l.records (split_pointer l.units)

  abbrev next : Ledger
  next = grown_ledger l

  abbrev v : Store
  v = view (picture l rest)

  s : Same (view (picture l rest)) (image l rest)
  s = seen l rest h.good

  before : n < m
  before = split_below m h.some

  here : state l n ≡ 1
  here = serving l rest h n before old

  -- ---- slots

  -- the records for whose key a test holds
  dealt_list : (p : ℕ → Bool) (r : ℕ)
      → get_or (filter_by (λ x. p (key_of x)) (records_in v n)) r (zeros slot_bytes) ≡ record_bytes (get_or (filter_by (λ (x : Rec). p x.key) rs) r empty)
  unfolding record_at
  dealt_list p r =
      let e : filter_by (λ x. p (key_of x)) (map record_bytes rs) ≡ map record_bytes (filter_by (λ (x : Rec). p x.key) rs) =
      filter_map record_bytes (λ x. p (key_of x)) rs
      ∙ ap (map record_bytes) (filter_ext (λ (x : Rec). p (key_of (record_bytes x))) (λ (x : Rec). p x.key) empty rs
      (λ q a. ap p (key_record_lem (get_or rs q empty) (h.good n q).key))) in
      rw (records_seen l rest h n (omega (arith, before)) here, e, ← empty_bytes) (get_or-map record_bytes (filter_by (λ (x : Rec). p x.key) rs) r empty)

  to_new : (r : ℕ) → get_or (filter_by (λ x. moves m (key_of x)) (records_in v n)) r (zeros slot_bytes) ≡ record_bytes (get_or (dealt_to l m) r empty)
  unfolding moves
  to_new r = dealt_list (λ i. eqb (unit_of (suc m) i) m) r

  to_split : (r : ℕ) → get_or (filter_by (λ x. not (moves m (key_of x))) (records_in v n)) r (zeros slot_bytes) ≡ record_bytes (get_or (dealt_to l n) r empty)
  unfolding record_at
  to_split r =
      dealt_list (λ i. not (moves m i)) r
      ∙ ap (λ (xs : List Rec). record_bytes (get_or xs r empty))
      (filter_ext (λ (x : Rec). not (moves m x.key)) (goes_to l n) empty rs (λ q a. not_moves m (get_or rs q empty).key h.some top (h.own n q a)))

  record_dealt : (u r : ℕ) → (u ≡ m) ⊎ (u ≡ n) → record_at next u r ≡ get_or (dealt_to l u) r empty
  unfolding record_at
  record_dealt u r one = by-dealt l (λ (xs : List Rec). get_or xs r empty ≡ get_or (dealt_to l u) r empty) u (λ _. refl) (λ a b. absurd (⊎_elim a b one))

  record_kept : (u r : ℕ) → (u ≡ m → ⊥) → (u ≡ n → ⊥) → record_at next u r ≡ record_at l u r
  unfolding record_at
  record_kept u r a b = by-dealt l (λ (xs : List Rec). get_or xs r empty ≡ get_or (l.records u) r empty) u (λ one. absurd (⊎_elim a b one)) (λ _ _. refl)

  resized : Resized l (grown_ledger l) l.units
  resized = record { before = h; after = valid_grown l h top; new = new; old = old; marks = λ w. unfold grown_ledger in refl; kept = record_kept }

  state_old : (u : ℕ) → u < 16 → (u ≡ m → ⊥) → state next u ≡ state l u
  unfolding grown_ledger
  state_old u a e = data_state next u a ∙ rw (← (ltb_suc u m e)) (sym (data_state l u a))

  slot_dealt : (u r : ℕ) → u < 16 → (u ≡ m) ⊎ (u ≡ n) → record_bytes (get_or (dealt_to l u) r empty) ≡ picture_slot next u r
  slot_dealt u r a one =
      ap record_bytes (sym (record_dealt u r one))
      ∙ sym (shows resized u r a (is_touched m (u / 4) (⊎_elim (λ e. inl (ap (λ (i : ℕ). i / 4) e)) (λ e. inr (ap (λ (i : ℕ). i / 4) e)) one)))

  slot_grown : (u r : ℕ) → u < 16 → r < l.size → dealt v m u r ≡ picture_slot next u r
  unfolding dealt image
  slot_grown u r a b =
      by-pick (λ (x : List ℕ). x ≡ picture_slot next u r) (eqb u m) _ _
      (λ e. to_new r ∙ ap (λ (i : ℕ). record_bytes (get_or (dealt_to l i) r empty)) (sym (eqb-true u m e)) ∙ slot_dealt u r a (inl (eqb-true u m e)))
      (λ e. by-pick (λ (x : List ℕ). x ≡ picture_slot next u r) (eqb u n) _ _
      (λ f. to_split r ∙ ap (λ (i : ℕ). record_bytes (get_or (dealt_to l i) r empty)) (sym (eqb-true u n f)) ∙ slot_dealt u r a (inr (eqb-true u n f)))
      (λ f. s.slot u r a b ∙ slot_same resized u r (eqb-false u m e) (eqb-false u n f) (state_old u a (eqb-false u m e))))

  -- ---- states

  state_new : state next m ≡ 1
  unfolding grown_ledger pick
  state_new = data_state next m (omega arith) ∙ rw (lt-ltb m (suc m) (le_refl (suc m)), quiet_data l h.calm m new old m (is_touched m (m / 4) (inl refl)))

  dstate_grown : (u : ℕ) → u < 16 → upd v.dstate m 1 u ≡ state next u
  unfolding upd image
  dstate_grown u a =
      by-pick (λ (i : ℕ). i ≡ state next u) (eqb u m) 1 (v.dstate u)
      (λ e. sym (ap (state next) (eqb-true u m e) ∙ state_new))
      (λ e. s.dstate u a ∙ sym (state_old u a (eqb-false u m e)))

  -- a check unit of the new group
  state_begun : (c : ℕ) → 4 * (c / 3) ≡ m → state next (16 + c) ≡ pick (ltb (c % 3) l.level) 1 0
  unfolding grown_ledger pick
  state_begun c e = check_state next c
      ∙ rw (lt-ltb (4 * (c / 3)) (suc m) (omega arith), quiet_check l h.calm m new old c (is_touched m (c / 3) (inl (omega arith))))

  place_same : (c : ℕ) → (4 * (c / 3) ≡ m → ⊥) → placed l (16 + c) ≡ placed next (16 + c)
  unfolding grown_ledger
  place_same c e = place_kept l next m refl refl refl c e

  cstate_grown : (c : ℕ) → c < 12 → grown_state v m c ≡ state next (16 + c)
  unfolding grown_state begins image
  cstate_grown c a =
      by-pick (λ (i : ℕ). i ≡ state next (16 + c)) (eqb (4 * (c / 3)) m) (pick (ltb (c % 3) (level_in v)) 1 0) (v.cstate c)
      (λ e. rw (level_seen l rest h) (sym (state_begun c (eqb-true (4 * (c / 3)) m e))))
      (λ e. s.cstate c a ∙ state_same resized c (place_same c (eqb-false (4 * (c / 3)) m e)))

  -- ---- check records

  was_off : (c : ℕ) → touched m (c / 3) ≡ true → eqb (state next (16 + c)) 1 ≡ false → eqb (state l (16 + c)) 1 ≡ false
  unfolding grown_ledger
  was_off c e f =
      let quiet : l.out (16 + c) ≡ false = quiet_check l h.calm m new old c e in
      serves l (16 + c) quiet ∙ fewer_placed l next (omega arith) (le_refl l.level) (16 + c) (sym (serves next (16 + c) quiet) ∙ f)

  check_left : (c r : ℕ) → (touched m (c / 3) && eqb (state next (16 + c)) 1) ≡ false → picture_check l c r ≡ picture_check next c r
  check_left c r =
      by-test (λ (t : Bool). touched m (c / 3) ≡ t → (t && eqb (state next (16 + c)) 1) ≡ false → picture_check l c r ≡ picture_check next c r)
      (touched m (c / 3))
      (λ _ e f. check_off l c r (was_off c e f) ∙ sym (check_off next c r f))
      (λ _ e f. check_same resized c r e (place_same c (λ d. not-both (is_touched m (c / 3) (inl (omega arith))) e)))
      refl

  check_grown : (c r : ℕ) → c < 12 → r < l.size
      → pick (touched m (c / 3) && eqb (state next (16 + c)) 1) (check_record (c % 3) (λ p. dealt v m (4 * (c / 3) + p) r)) (v.check c r)
      ≡ picture_check next c r
  unfolding image
  check_grown c r a b =
      by-pick (λ (x : List ℕ). x ≡ picture_check next c r) (touched m (c / 3) && eqb (state next (16 + c)) 1) _ (v.check c r)
      (λ e.
      made resized c r (λ u. dealt v m u r) a (λ u i. slot_grown u r i b)
      (and_first (touched m (c / 3)) _ e) (and_second (touched m (c / 3)) _ e))
      (λ e. s.check c r a b ∙ check_left c r e)

  pub grow_picture : bytes (grown v l.units) ≡ picture (grown_ledger l) rest
  unfolding grown image grown_ledger front_of bytes32
  grow_picture = bytes_ext (grown v m) (image (grown_ledger l) rest) (record {
    front = ap (λ (x : List ℕ). set x 6 (suc m)) s.front;
    size = s.size;
    dstate = dstate_grown;
    cstate = cstate_grown;
    slot = slot_grown;
    check = λ c r a b. rw (cstate_grown c a) (check_grown c r a b);
    rest = s.rest;
  })

-- ---- the call

pub grow_simulated : (l : Ledger) (rest : List ℕ) → Valid l → Simulated l rest grow
unfolding reply refusals_in refusals granted granted_in given given_in
grow_simulated l rest h = record {
  tests = rw (units_seen l rest h) (row (sound_row l rest h) (λ _. row refl (λ e.
      let top : l.units < 16 = leb-false 16 l.units e in
      row (rw (outs_seen l rest h (l.units / 4) (omega arith))) (λ _.
      row (rw (outs_seen l rest h (split_pointer l.units / 4) (omega (arith, split_below l.units h.some)))) (λ _. tt)))));
  hands = λ f. refl;
  counts = λ f n y. refl;
  bytes = λ f. rw (units_seen l rest h) (grow_picture l rest h (omega (arith, leb-false 16 l.units f.1.0)) f.1.1.0 f.1.1.1.0);
  valid = λ f. valid_grown l h (omega (arith, leb-false 16 l.units f.1.0));
}
