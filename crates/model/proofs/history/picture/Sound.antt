-- The picture of a valid ledger is sound, clause by clause.
use Prim.Native.Nat.{ℕ, ◌+◌, ◌*◌, ◌/◌, ◌%◌, ◌≤◌, ◌<◌}
use mathlib.Core.Path.{◌≡◌, refl, sym, ap, ◌∙◌, subst}
use mathlib.Core.List.{List}
use mathlib.Core.Bool.{Bool, true, false, ◌&&◌, ◌||◌, not}
use native.Mathlib.Omega.{arith}
use native.Mathlib.Nat.{le_refl}
use lib.Dec.{eqb, ltb}
use lib.ListN.{length}
use borrow.Author.Tests.{eq-eqb, ne_eqb, eqb-true, ltb-true, ltb-false, le-leb}
use Rattle.buffer.specs.Choice.{pick}
use Rattle.buffer.specs.ChoiceLaws.{by-pick, by-test}
use Rattle.buffer.specs.TestLaws.{and-true, or_else}
use Rattle.buffer.specs.Range.{all}
use Rattle.buffer.specs.RangeLaws.{all_holds, count_pos}
use Rattle.buffer.specs.Bytes.{byte, be32, bytes32, zeros, part}
use Rattle.buffer.specs.ByteLaws.{be32_part, be32_bytes32}
use Rattle.group.specs.Widths.{key_bytes, slot_bytes, check_bytes}
use Rattle.model.specs.Units.{unit_of}
use Rattle.model.specs.Layout.{Store, view, version, store_bytes, key_of, front_of}
use Rattle.model.specs.LayoutLaws.{Same, Shaped, byte_front, part_front}
use Rattle.model.specs.Reads.{fill_in, listed_key, listed_fill, keys_lost_in}
use Rattle.model.specs.Sound.{ranges, units_placed, check_placed, checks_placed, zeroed, keys_placed, lists_agree, sound}
use Rattle.model.specs.SoundLaws.{same_of}
use Rattle.model.specs.history.Ledger.{Ledger, record_at, is_out, state}
use Rattle.model.specs.history.Picture.{record_bytes, picture_slot, image, picture}
use Rattle.model.proofs.history.ledger.Valid.{Valid}
use Rattle.model.proofs.history.ledger.States.{placed_unit, placed_check, state_fits_lem}
use Rattle.model.proofs.history.picture.Records.{empty_bytes, listed_over}
use Rattle.model.proofs.history.picture.Picture.{seen, image_shaped, length_picture, slot_on, slot_off, check_off}
use Rattle.model.proofs.history.picture.Seen.{past, size_seen, units_seen, level_seen, dstate_is, cstate_is, fill_seen, no_key}
use Rattle.model.proofs.history.picture.Listed.{Kept, check_kept, key_kept, key_known, fill_known}
use Rattle.model.proofs.history.picture.Losses.{keys_lost_seen, known}

-- ---- tests

not_or : (a b : Bool) → (a ≡ true → b ≡ true) → (not a || b) ≡ true
not_or true b h = h refl
not_or false b h = refl

module _ (l : Ledger) (rest : List ℕ) (h : Valid l) where
  abbrev v : Store
  v = view (picture l rest)

  s : Same (view (picture l rest)) (image l rest)
  s = seen l rest h.good

  rank : (r : ℕ) → r < v.size → r < l.size
  rank r a = omega (arith, size_seen l rest h)

  -- ---- ranges

  shaped : Shaped (image l rest)
  shaped = image_shaped l rest h.good

  front_0 : byte (picture l rest) 0 ≡ version
  unfolding image front_of
  front_0 = byte_front (image l rest) shaped 0 (omega arith)

  front_5 : byte (picture l rest) 5 ≡ l.size
  unfolding image front_of bytes32
  front_5 = byte_front (image l rest) shaped 5 (omega arith)

  front_6 : byte (picture l rest) 6 ≡ l.units
  unfolding image front_of bytes32
  front_6 = byte_front (image l rest) shaped 6 (omega arith)

  front_7 : byte (picture l rest) 7 ≡ l.level
  unfolding image front_of bytes32
  front_7 = byte_front (image l rest) shaped 7 (omega arith)

  front_1 : be32 (picture l rest) 1 ≡ store_bytes l.size
  unfolding image front_of bytes32 part
  front_1 =
      sym (be32_part 1 4 (picture l rest) 0 (le_refl 4))
      ∙ ap (λ (x : List ℕ). be32 x 0) (part_front (image l rest) shaped 1 4 (omega arith))
      ∙ be32_bytes32 (store_bytes l.size) (omega (arith, h.most))

  long : store_bytes l.size ≤ length (picture l rest)
  long = omega (arith, length_picture l rest h.good)

  ranges_true : ranges (picture l rest) ≡ true
  unfolding ranges
  ranges_true = rw (
    front_0,
    front_5,
    front_6,
    front_7,
    front_1,
    eq-eqb (store_bytes l.size) (store_bytes l.size) refl,
    le-leb 1 l.size h.least,
    le-leb l.size 64 h.most,
    le-leb 1 l.units h.some,
    le-leb l.units 16 h.few,
    le-leb 1 l.level h.levelled,
    le-leb l.level 3 h.topped,
    le-leb (store_bytes l.size) (length (picture l rest)) (omega (arith, long)),
  )

  -- ---- units in place

  units_true : units_placed v ≡ true
  unfolding units_placed
  units_true = rw (units_seen l rest h) (all_holds 16 _ (λ u a. rw (dstate_is l rest h u a, ← (placed_unit l u a)) (state_fits_lem l u)))

  checks_true : checks_placed v ≡ true
  unfolding checks_placed check_placed
  checks_true = rw (units_seen l rest h, level_seen l rest h)
      (all_holds 12 _ (λ c a. rw (cstate_is l rest h c a, ← (placed_check l c)) (state_fits_lem l (16 + c))))

  -- ---- zeros

  zero_slot : (u r : ℕ) → u < 16 → r < l.size → (eqb (v.dstate u) 1 && ltb r (fill_in v u)) ≡ false → v.slot u r ≡ zeros slot_bytes
  unfolding image
  zero_slot u r a b e = s.slot u r a b ∙ by-test (λ (t : Bool). picture_slot l u r ≡ zeros slot_bytes) (eqb (state l u) 1)
      (λ q.
      let e2 : ltb r (fill_in v u) ≡ false = sym (ap (λ (t : Bool). t && ltb r (fill_in v u)) (ap (λ (n : ℕ). eqb n 1) (s.dstate u a) ∙ q)) ∙ e in
      let n : fill_in v u ≡ length (l.records u) = fill_seen l rest h u a (eqb-true (state l u) 1 q) in
      slot_on l u r q ∙ ap record_bytes (past l u r (omega (arith, ltb-false r (fill_in v u) e2))) ∙ empty_bytes)
      (slot_off l u r)

  zero_check : (c r : ℕ) → c < 12 → r < l.size → eqb (v.cstate c) 1 ≡ false → v.check c r ≡ zeros check_bytes
  unfolding image
  zero_check c r a b e = s.check c r a b ∙ check_off l c r (ap (λ (n : ℕ). eqb n 1) (sym (s.cstate c a)) ∙ e)

  zeroed_true : zeroed v ≡ true
  unfolding zeroed
  zeroed_true = and-true
      (all_holds 16 _ (λ u a. all_holds v.size _ (λ r b. or_else _ _ (λ e. same_of (v.slot u r) (zeros slot_bytes) (zero_slot u r a (rank r b) e)))))
      (all_holds 12 _ (λ c a. all_holds v.size _ (λ r b. or_else _ _ (λ e. same_of (v.check c r) (zeros check_bytes) (zero_check c r a (rank r b) e)))))

  -- ---- keys

  key_test : (u : ℕ) (a : u < 16) (k : is_out l u ≡ true → Kept l rest h (u / 4)) (r : ℕ) → r < l.size
      → pick (ltb r (listed_fill v u))
      (eqb (unit_of l.units (key_of (listed_key v u r))) u && all r (λ q. not (eqb (key_of (listed_key v u q)) (key_of (listed_key v u r)))))
      (eqb (key_of (listed_key v u r)) 0) ≡ true
  key_test u a k r b = rw (fill_known l rest h u a k, key_known l rest h u a k r b)
      (by-pick (λ (t : Bool). t ≡ true) (ltb r (length (l.records u))) _ _
      (λ e.
      let i : r < length (l.records u) = ltb-true r (length (l.records u)) e in
      and-true (eq-eqb (unit_of l.units (record_at l u r).key) u (h.own u r i))
      (all_holds r _ (λ q c. ap not (ne_eqb (key_of (listed_key v u q)) (record_at l u r).key
      (λ d. h.differ u q r c i (sym (key_known l rest h u a k q (omega arith)) ∙ d))))))
      (λ e. eq-eqb (record_at l u r).key 0 (no_key l u r (ltb-false r (length (l.records u)) e))))

  keys_true : keys_placed v ≡ true
  unfolding keys_placed
  keys_true = rw (units_seen l rest h)
      (all_holds 16 _ (λ u a. or_else (keys_lost_in v u) _ (λ e.
      all_holds v.size _ (λ r b. key_test u a (known l rest h u a (sym (keys_lost_seen l rest h u a) ∙ e)) r (rank r b)))))

  -- ---- the lists of the check units

  list_test : (c : ℕ) → c < 12 → eqb (v.cstate c) 1 ≡ true → (r : ℕ) → r < l.size → (p : ℕ) → p < 4
      → eqb (key_of (part (key_bytes * p) key_bytes (v.check c r))) (key_of (listed_key v (4 * (c / 3) + p) r)) ≡ true
  list_test c a e r b p d =
      let g : ℕ = c / 3 in
      let j : ℕ = c % 3 in
      let k : 3 * g + j ≡ c = omega arith in
      let on : eqb (v.cstate (3 * g + j)) 1 ≡ true = ap (λ (n : ℕ). eqb (v.cstate n) 1) k ∙ e in
      let on' : eqb (state l (16 + (3 * g + j))) 1 ≡ true = sym (ap (λ (n : ℕ). eqb n 1) (cstate_is l rest h (3 * g + j) (omega arith))) ∙ on in
      let u : ℕ = 4 * g + p in
      let m : g ≡ u / 4 = omega arith in
      let kept : Kept l rest h (u / 4) = subst (Kept l rest h) m (count_pos 3 (λ i. eqb (v.cstate (3 * g + i)) 1) j (omega arith) on) in
      eq-eqb _ _ (ap key_of (
      ap (λ (n : ℕ). part (key_bytes * p) key_bytes (v.check n r)) (sym k)
      ∙ ap (part (key_bytes * p) key_bytes) (check_kept l rest h g (omega arith) r b j (omega arith) on')
      ∙ listed_over j (λ q. record_at l (4 * g + q) r) p d
      ∙ sym (key_kept l rest h u (omega arith) (λ o. kept) r b)))

  lists_true : lists_agree v ≡ true
  unfolding lists_agree
  lists_true =
      all_holds 12 _ (λ c a. not_or (eqb (v.cstate c) 1) _ (λ e. all_holds v.size _ (λ r b. all_holds 4 _ (λ p d. list_test c a e r (rank r b) p d))))

  pub picture_sound : sound (picture l rest) ≡ true
  unfolding sound
  picture_sound = rw (ranges_true, units_true, checks_true, zeroed_true, keys_true, lists_true)
