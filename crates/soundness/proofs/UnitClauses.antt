-- The test of one data unit says what soundness asks of that unit.
use mathlib.Core.Path.{◌≡◌, refl, sym, ap, ◌∙◌}
use mathlib.Core.Bool.{Bool, true, false, ◌&&◌, ◌||◌}
use mathlib.Core.List.{List}
use Prim.Native.Nat.{ℕ, ◌+◌, ◌*◌, ◌/◌, ◌≤◌, ◌<◌}
use native.Mathlib.Omega.{arith}
use lib.Dec.{eqb, ltb, leb}
use lib.ListN.{length}
use borrow.Author.Tests.{eqb-true, eq-eqb, ne_eqb, ltb-true, ltb-false, le-ltb}
use Rattle.buffer.specs.Choice.{pick}
use Rattle.buffer.specs.ChoiceLaws.{by-test, pick_true, pick-false}
use Rattle.buffer.specs.TestLaws.{not-both, and-true, and_first, and_second, or_else, or_other}
use Rattle.buffer.specs.Range.{all}
use Rattle.buffer.specs.RangeLaws.{first_ext}
use Rattle.buffer.specs.Bytes.{byte, be32, zeros}
use Rattle.model.specs.Layout.{view, key_of, slot_at}
use Rattle.model.specs.Reads.{fill_in, listed_key, listed_fill, keys_lost_in}
use Rattle.model.proofs.LossLaws.{kept_keys, out_keys}
use Rattle.model.specs.Sound.{same, state_fits}
use Rattle.buffer.specs.Strided.{strided32}
use Rattle.group.specs.Widths.{slot_bytes}
use Rattle.soundness.specs.Keys.{fill_of, matched, own_keys}
use Rattle.soundness.specs.Pieces.{Ranged, data_fits, data_keys, column_keys, unkept, beside_keys, data_fill, lost_fill, unit_zero, rest_zero}
use Rattle.soundness.specs.Pieces.{served, lost, served_or_lost, unit_fill, none_behind, own_listed, unit_good}
use Rattle.soundness.specs.Survey.{known_fill}
use Rattle.soundness.proofs.Joined.{or_right, or_left, either, behind}
use Rattle.soundness.proofs.Located.{row_within}
use Rattle.soundness.proofs.Listed.{slot_key, listed_own, listed_out}
use Rattle.soundness.proofs.Zeros.{Zero, zero_range, range_zero, slot_zero, zero_slots}
use Rattle.soundness.proofs.Good.{own_and_new, keys_good, fill_le, matched_front, front_matched, new_same, own_front, front_new, front_own, none_own}
use Rattle.soundness.proofs.Good.{good_parts, parts_good, no_keys_true, no_keys_holds, no_fill, no_keys_good}

-- not in place: zeros, and no keys listed for it
unfoldable pub absent : List ℕ → ℕ → Bool
absent s u = unit_zero s u && none_behind s u 0

-- what is asked of any unit
unfoldable pub unit_asked : List ℕ → ℕ → Bool
unit_asked s u = pick (ltb u (byte s 6)) (unit_good s u) (absent s u)

-- the first n keys of a unit are its own, and no others are listed for it
abbrev own_up_to : List ℕ → ℕ → ℕ → Bool
own_up_to s u n = own_keys (byte s 6) u n (beside_keys s u) && none_behind s u n

-- the clauses of soundness that speak of data unit u
pub record Unit (s : List ℕ) (u : ℕ) : Type 0 where
  pub zero : (r : ℕ) → r < byte s 5 → ((eqb (byte s (8 + u)) 1 && ltb r (fill_in (view s) u)) || same ((view s).slot u r) (zeros slot_bytes)) ≡ true
  pub keys : (keys_lost_in (view s) u || keys_good (byte s 5) (byte s 6) u (λ r. key_of (listed_key (view s) u r))) ≡ true
  pub lists : unkept s (u / 4) ≡ false → (r : ℕ) → r < byte s 5 → column_keys s u r ≡ key_of (listed_key (view s) u r)

-- ---- the key of a zero slot
key_zero : (s : List ℕ) (at : ℕ) → Zero s at (at + 4) → be32 s at ≡ 0
unfolding be32
key_zero s at z =
    let byte-zero : (i : ℕ) → i < 4 → byte s (at + i) ≡ 0 = λ i l. z (at + i) (omega arith) (omega arith) in
    omega (arith, z at (omega arith) (omega arith), byte-zero 1 (omega arith), byte-zero 2 (omega arith), byte-zero 3 (omega arith))

module _ (s : List ℕ) (u : ℕ) where
  pub fill_in_lem : fill_in (view s) u ≡ fill_of (byte s 5) (data_keys s u)
  unfolding fill_in fill_of view
  fill_in_lem = first_ext (byte s 5) _ _ (λ r _. ap (λ k. eqb k 0) (slot_key s u r))

  data_zero : (n : ℕ) → Zero s (slot_at (byte s 5) u 0 + slot_bytes * n) (slot_at (byte s 5) u 0 + slot_bytes * byte s 5) → (r : ℕ) → n ≤ r → r < byte s 5
      → data_keys s u r ≡ 0
  unfolding data_keys strided32
  data_zero n z r l k = key_zero s (slot_at (byte s 5) u 0 + slot_bytes * r) (λ i p q. z i (omega arith) (omega arith))

  -- whether its keys are lost, and how many are known where they are not
  not_lost : (byte s (8 + u) ≡ 2 → ⊥) → keys_lost_in (view s) u ≡ false
  not_lost h = kept_keys (view s) u (unfold view in ne_eqb (byte s (8 + u)) 2 h)

  lost_out : byte s (8 + u) ≡ 2 → keys_lost_in (view s) u ≡ unkept s (u / 4)
  unfolding unkept
  lost_out e = out_keys (view s) u (unfold view in eq-eqb (byte s (8 + u)) 2 e)

  fill_known : {key : ℕ → ℕ} → keys_lost_in (view s) u ≡ false → (λ r. key_of (listed_key (view s) u r)) ≡ key → fill_of (byte s 5) key ≡ known_fill (view s) u
  unfolding known_fill
  fill_known h e =
      let all_listed : fill_of (byte s 5) (λ r. key_of (listed_key (view s) u r)) ≡ listed_fill (view s) u = unfold fill_of listed_fill view in refl in
      ap (fill_of (byte s 5)) (sym e) ∙ all_listed ∙ sym (pick-false h 0 (listed_fill (view s) u))

  -- the keys beside its own
  beside_own : unkept s (u / 4) ≡ true → beside_keys s u ≡ data_keys s u
  unfolding beside_keys
  beside_own e = pick_true e (data_keys s u) (column_keys s u)

  beside_listed : unkept s (u / 4) ≡ false → beside_keys s u ≡ column_keys s u
  unfolding beside_keys
  beside_listed e = pick-false e (data_keys s u) (column_keys s u)

  -- none is listed from rank n on
  none_true : (n : ℕ) → none_behind s u n ≡ true → unkept s (u / 4) ≡ false → (r : ℕ) → n ≤ r → r < byte s 5 → column_keys s u r ≡ 0
  unfolding none_behind
  none_true n h e = no_keys_true n (byte s 5) (column_keys s u) (or_other (unkept s (u / 4)) _ e h)

  none_holds : (n : ℕ) → (unkept s (u / 4) ≡ false → (r : ℕ) → n ≤ r → r < byte s 5 → column_keys s u r ≡ 0) → none_behind s u n ≡ true
  unfolding none_behind
  none_holds n h = or_else (unkept s (u / 4)) _ (λ e. no_keys_holds n (byte s 5) (column_keys s u) (h e))

module _ (s : List ℕ) (ok : Ranged s) (u : ℕ) (low : u < 16) where
  fits : slot_at (byte s 5) u 0 + slot_bytes * byte s 5 ≤ length s
  fits = omega (arith, row_within 16 u (byte s 5) low, ok.long)

  -- the whole unit is zero
  whole : unit_zero s u ≡ true → Zero s (slot_at (byte s 5) u 0 + slot_bytes * 0) (slot_at (byte s 5) u 0 + slot_bytes * byte s 5)
  unfolding unit_zero
  whole h i p q = zero_range s _ _ (omega arith) fits h i (omega arith) q

  blank : unit_zero s u ≡ true → (r : ℕ) → r < byte s 5 → ((eqb (byte s (8 + u)) 1 && ltb r (fill_in (view s) u)) || same ((view s).slot u r) (zeros slot_bytes))
      ≡ true
  blank h r l = behind (eqb (byte s (8 + u)) 1) (ltb r (fill_in (view s) u)) _ (slot_zero s u fits 0 (whole h) r (omega arith) l)

  unblank : (byte s (8 + u) ≡ 1 → ⊥) → Unit s u → unit_zero s u ≡ true
  unfolding unit_zero
  unblank n g =
      range_zero s _ _ (omega arith) fits (λ i p q.
      zero_slots s u fits 0 (λ r _ l. or_right (eqb (byte s (8 + u)) 1) (ltb r (fill_in (view s) u)) _ (ne_eqb _ _ n) (g.zero r l)) i (omega arith) q)

  -- ---- in service
  module _ (state : byte s (8 + u) ≡ 1) where
    own : (λ r. key_of (listed_key (view s) u r)) ≡ data_keys s u
    own = listed_own s u (λ e. absurd (omega arith))

    served_unit : (served s u && own_up_to s u (data_fill s u)) ≡ true → Unit s u
    unfolding served data_fill rest_zero
    served_unit h =
        let n : ℕ = fill_of (byte s 5) (data_keys s u) in
        let found = and_first (served s u) _ h in
        let more = and_second (served s u) _ h in
        let near : Bool = leb (matched (byte s 5) (data_keys s u) (beside_keys s u)) 64 in
        let alike = matched_front (byte s 5) (data_keys s u) (beside_keys s u) (and_first near _ found) in
        let z : Zero s (slot_at (byte s 5) u 0 + slot_bytes * n) (slot_at (byte s 5) u 0 + slot_bytes * byte s 5) =
        zero_range s _ _ (omega (arith, fill_le (byte s 5) (data_keys s u))) fits
        (and_second near _ found) in
        record {
          zero = λ r l.
              either (eqb (byte s (8 + u)) 1) (ltb r (fill_in (view s) u)) _ (eq-eqb _ _ state) (λ e.
              slot_zero s u fits n z r (let w : fill_in (view s) u ≤ r = ltb-false r (fill_in (view s) u) e in omega (arith, fill_in_lem s u)) l);
          keys = rw (not_lost s u (λ e. absurd (omega arith)), own) (parts_good (byte s 5) (byte s 6) u (data_keys s u)
              (own_front n (byte s 6) u (data_keys s u) (beside_keys s u) alike (and_first (own_keys (byte s 6) u n (beside_keys s u)) _ more))
              (data_zero s u n z));
          lists = λ e r l.
              by-test
              (λ _. column_keys s u r ≡ data_keys s u r)
              (ltb r n)
              (λ q. sym (new_same n (data_keys s u) (beside_keys s u) alike r (ltb-true r n q) ∙ ap (λ f. f r) (beside_listed s u e)))
              (λ q.
              none_true s u n (and_second (own_keys (byte s 6) u n (beside_keys s u)) _ more) e r (ltb-false r n q) l
              ∙ sym (data_zero s u n z r (ltb-false r n q) l))
              ∙ sym (ap (λ f. f r) own);
        }

    unit_served : Unit s u → (served s u && own_up_to s u (data_fill s u)) ≡ true
    unfolding served data_fill rest_zero
    unit_served g =
        let n : ℕ = fill_of (byte s 5) (data_keys s u) in
        let k = good_parts (byte s 5) (byte s 6) u (data_keys s u) (rw (not_lost s u (λ e. absurd (omega arith)), own) at g.keys) in
        let z : Zero s (slot_at (byte s 5) u 0 + slot_bytes * n) (slot_at (byte s 5) u 0 + slot_bytes * byte s 5) =
        zero_slots s u fits n (λ r l w.
        or_left (eqb (byte s (8 + u)) 1) (ltb r (fill_in (view s) u)) _ (le-ltb r (fill_in (view s) u) (omega (arith, fill_in_lem s u))) (g.zero r w)) in
        let column : unkept s (u / 4) ≡ false → (r : ℕ) → r < byte s 5 → column_keys s u r ≡ data_keys s u r =
        λ e r l. g.lists e r l ∙ ap (λ f. f r) own in
        let alike : (r : ℕ) → r < n → data_keys s u r ≡ beside_keys s u r =
        λ r l.
        by-test
        (λ _. data_keys s u r ≡ beside_keys s u r)
        (unkept s (u / 4))
        (λ e. sym (ap (λ f. f r) (beside_own s u e)))
        (λ e. sym (column e r (omega (arith, fill_le (byte s 5) (data_keys s u)))) ∙ sym (ap (λ f. f r) (beside_listed s u e))) in
        and-true
        (and-true
        (front_matched (byte s 5) (data_keys s u) (beside_keys s u) ok.few (front_new n (byte s 6) u (data_keys s u) (beside_keys s u) k.0 alike))
        (range_zero s _ _ (omega (arith, fill_le (byte s 5) (data_keys s u))) fits z))
        (and-true
        (front_own n (byte s 6) u (data_keys s u) (beside_keys s u) k.0 alike)
        (none_holds s u n (λ e r l w. column e r w ∙ k.1 r l w)))

    served_fill : data_fill s u ≡ known_fill (view s) u
    unfolding data_fill
    served_fill = fill_known s u (not_lost s u (λ e. absurd (omega arith))) own

  -- ---- out
  module _ (state : byte s (8 + u) ≡ 2) where
    listed : (λ r. key_of (listed_key (view s) u r)) ≡ column_keys s u
    listed = listed_out s u state

    lost_kept : unkept s (u / 4) ≡ false → lost_fill s u ≡ fill_of (byte s 5) (column_keys s u)
    unfolding lost_fill
    lost_kept e = pick-false e 0 (fill_of (byte s 5) (column_keys s u))

    lost_unkept : unkept s (u / 4) ≡ true → lost_fill s u ≡ 0
    unfolding lost_fill
    lost_unkept e = pick_true e 0 (fill_of (byte s 5) (column_keys s u))

    lost_unit : (lost s u && own_up_to s u (lost_fill s u)) ≡ true → Unit s u
    unfolding lost
    lost_unit h =
        let found = and_first (lost s u) _ h in
        let more = and_second (lost s u) _ h in
        record {
          zero = blank (and_first (unit_zero s u) _ found);
          keys = rw (lost_out s u state, listed) (or_else (unkept s (u / 4)) _ (λ e.
              let alike = matched_front (byte s 5) (column_keys s u) (column_keys s u) (or_other (unkept s (u / 4)) _ e (and_second (unit_zero s u) _ found)) in
              let both : own_up_to s u (fill_of (byte s 5) (column_keys s u)) ≡ true = ap (own_up_to s u) (sym (lost_kept e)) ∙ more in
              let own : own_keys (byte s 6) u (fill_of (byte s 5) (column_keys s u)) (column_keys s u) ≡ true =
              ap (own_keys (byte s 6) u (fill_of (byte s 5) (column_keys s u))) (sym (beside_listed s u e)) ∙ and_first _ _ both in
              parts_good (byte s 5) (byte s 6) u (column_keys s u)
              (own_front _ (byte s 6) u (column_keys s u) (column_keys s u) alike own)
              (none_true s u _ (and_second (own_keys (byte s 6) u (fill_of (byte s 5) (column_keys s u)) (beside_keys s u)) _ both) e)));
          lists = λ e r l. sym (ap (λ f. f r) listed);
        }

    unit_lost_lem : Unit s u → (lost s u && own_up_to s u (lost_fill s u)) ≡ true
    unfolding lost
    unit_lost_lem g =
        let n : ℕ = fill_of (byte s 5) (column_keys s u) in
        let k : unkept s (u / 4) ≡ false → (all n (own_and_new (byte s 6) u (column_keys s u)) ≡ true) × ((r : ℕ) → n ≤ r → r < byte s 5 → column_keys s u r ≡ 0) =
        λ e. good_parts (byte s 5) (byte s 6) u (column_keys s u) (rw (lost_out s u state, listed, e) at g.keys) in
        and-true
        (and-true
        (unblank (λ e. absurd (omega arith)) g)
        (or_else (unkept s (u / 4)) _ (λ e.
        front_matched (byte s 5) (column_keys s u) (column_keys s u) ok.few
        (front_new n (byte s 6) u (column_keys s u) (column_keys s u) (k e).0 (λ r _. refl)))))
        (by-test
        (λ _. own_up_to s u (lost_fill s u) ≡ true)
        (unkept s (u / 4))
        (λ e. ap (own_up_to s u) (lost_unkept e) ∙ and-true (none_own (byte s 6) u (beside_keys s u)) (none_holds s u 0 (λ f. not-both e f)))
        (λ e.
        ap (own_up_to s u) (lost_kept e)
        ∙ and-true
        (ap (own_keys (byte s 6) u n) (beside_listed s u e)
        ∙ front_own n (byte s 6) u (column_keys s u) (column_keys s u) (k e).0 (λ r _. refl))
        (none_holds s u n (λ _. (k e).1))))

    lost_fill_lem : lost_fill s u ≡ known_fill (view s) u
    unfolding known_fill
    lost_fill_lem =
        by-test
        (λ _. lost_fill s u ≡ known_fill (view s) u)
        (unkept s (u / 4))
        (λ e. lost_unkept e ∙ sym (pick_true (lost_out s u state ∙ e) 0 (listed_fill (view s) u)))
        (λ e. lost_kept e ∙ fill_known s u (lost_out s u state ∙ e) listed)

  -- ---- not in place
  module _ (state : byte s (8 + u) ≡ 0) where
    none : (λ r. key_of (listed_key (view s) u r)) ≡ data_keys s u
    none = listed_own s u (λ e. absurd (omega arith))

    keyless : unit_zero s u ≡ true → (r : ℕ) → r < byte s 5 → data_keys s u r ≡ 0
    keyless z r l = data_zero s u 0 (whole z) r (omega arith) l

    absent_unit : absent s u ≡ true → Unit s u
    unfolding absent
    absent_unit h =
        let z = and_first (unit_zero s u) _ h in
        record {
          zero = blank z;
          keys = rw (not_lost s u (λ e. absurd (omega arith)), none) (no_keys_good (byte s 5) (byte s 6) u (data_keys s u) (keyless z));
          lists = λ e r l. none_true s u 0 (and_second (unit_zero s u) _ h) e r (omega arith) l ∙ sym (ap (λ f. f r) none ∙ keyless z r l);
        }

    unit_absent : Unit s u → absent s u ≡ true
    unfolding absent
    unit_absent g =
        let z = unblank (λ e. absurd (omega arith)) g in
        and-true z (none_holds s u 0 (λ e r _ l. g.lists e r l ∙ ap (λ f. f r) none ∙ keyless z r l))

    absent_fill : absent s u ≡ true → 0 ≡ known_fill (view s) u
    unfolding absent
    absent_fill h =
        sym (no_fill (byte s 5) (data_keys s u) (keyless (and_first (unit_zero s u) _ h)))
        ∙ fill_known s u (not_lost s u (λ e. absurd (omega arith))) none

  -- ---- by the unit's state
  by_state : (Q : Bool → ℕ → Type 0) → data_fits s u ≡ true
      → (byte s (8 + u) ≡ 1 → Q (served s u && own_up_to s u (data_fill s u)) (data_fill s u))
      → (byte s (8 + u) ≡ 2 → Q (lost s u && own_up_to s u (lost_fill s u)) (lost_fill s u))
      → (byte s (8 + u) ≡ 0 → Q (absent s u) 0)
      → Q (unit_asked s u) (unit_fill s u)
  unfolding state_fits unit_asked unit_good served_or_lost own_listed unit_fill pick
  by_state Q h one two none =
      by-test
      (λ t.
      pick t (eqb (byte s (8 + u)) 1 || eqb (byte s (8 + u)) 2) (eqb (byte s (8 + u)) 0) ≡ true
      → Q
      (pick t
      (pick (eqb (byte s (8 + u)) 1) (served s u) (lost s u) && own_up_to s u (pick t (pick (eqb (byte s (8 + u)) 1) (data_fill s u) (lost_fill s u)) 0))
      (absent s u))
      (pick t (pick (eqb (byte s (8 + u)) 1) (data_fill s u) (lost_fill s u)) 0))
      (ltb u (byte s 6))
      (λ _.
      by-test
      (λ t. (t || eqb (byte s (8 + u)) 2) ≡ true
      → Q (pick t (served s u) (lost s u) && own_up_to s u (pick t (data_fill s u) (lost_fill s u))) (pick t (data_fill s u) (lost_fill s u)))
      (eqb (byte s (8 + u)) 1)
      (λ e _. one (eqb-true _ _ e))
      (λ _ k. two (eqb-true _ _ k)))
      (λ _ k. none (eqb-true _ _ k))
      h

  pub good_unit : data_fits s u ≡ true → unit_asked s u ≡ true → Unit s u
  good_unit p = by_state (λ t _. t ≡ true → Unit s u) p served_unit lost_unit absent_unit

  pub good_fill : data_fits s u ≡ true → unit_asked s u ≡ true → unit_fill s u ≡ known_fill (view s) u
  good_fill p = by_state (λ t n. t ≡ true → n ≡ known_fill (view s) u) p (λ e _. served_fill e) (λ e _. lost_fill_lem e) absent_fill

  pub unit_good_lem : data_fits s u ≡ true → Unit s u → unit_asked s u ≡ true
  unit_good_lem p g = by_state (λ t _. t ≡ true) p (λ e. unit_served e g) (λ e. unit_lost_lem e g) (λ e. unit_absent e g)
