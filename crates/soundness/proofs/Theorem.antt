-- The pieces of the test together say what document 01 calls sound, and what is handed on of them is what the store holds.
use mathlib.Core.Path.{◌≡◌, refl, sym, ap, ap₂, ◌∙◌}
use mathlib.Core.Bool.{Bool, true, false, not, ◌&&◌, ◌||◌}
use mathlib.Core.List.{List}
use Prim.Native.Nat.{ℕ, ◌+◌, ◌*◌, ◌/◌, ◌%◌, ◌≤◌, ◌<◌}
use native.Mathlib.Omega.{arith}
use lib.Dec.{eqb, ltb}
use lib.Seq.{get_or-take}
use borrow.Author.Tests.{eqb-true, eqb-false, eq-eqb, ne_eqb, ltb-true, ltb-false, not-false}
use Rattle.buffer.specs.Choice.{pick}
use Rattle.buffer.specs.ChoiceLaws.{by-test, pick_true}
use Rattle.buffer.specs.TestLaws.{and-true, and_first, and_second, and_ext, or_else, or_other, same_test}
use Rattle.buffer.specs.Range.{all, first}
use Rattle.buffer.specs.Loops.{entries}
use Rattle.buffer.specs.RangeLaws.{all_true, all_holds, first_le, first_holds, entries_ext}
use Rattle.buffer.specs.Bytes.{byte, part, zeros}
use Rattle.model.specs.Layout.{view, key_of, units_in, level_in, check_at}
use Rattle.model.specs.Reads.{fill_in, first_check, outs_in, listed_key, listed_fill, keys_lost_in}
use Rattle.model.proofs.SoundSays.{in_range}
use Rattle.model.specs.Sound.{same, ranges, units_placed, checks_placed, zeroed, keys_placed, lists_agree, sound}
use Rattle.buffer.specs.Strided.{strided32}
use Rattle.group.specs.Widths.{slot_bytes, check_bytes}
use Rattle.soundness.specs.Keys.{fill_of, is_new}
use Rattle.soundness.specs.Pieces.{Ranged, data_fits, check_fits, column_keys, unkept, unit_fill, unit_good}
use Rattle.soundness.specs.Pieces.{groups_in, columns_empty, behind_zero, check_good, pieces}
use Rattle.soundness.specs.Survey.{known_fill, counted_fills, Surveyed}
use Rattle.std.specs.Prelude.{Some}
use Rattle.soundness.proofs.Told.{some_told}
use Rattle.soundness.proofs.Joined.{and_assoc, and_three, and_four}
use Rattle.soundness.proofs.Endings.{first_check_before}
use Rattle.soundness.proofs.Listed.{check_key_lem}
use Rattle.soundness.proofs.Good.{own_and_new, keys_good}
use Rattle.soundness.proofs.UnitClauses.{Unit, unit_asked, good_unit, good_fill, unit_good_lem}
use Rattle.soundness.proofs.CheckClauses.{check_key, Check, good_check, check_good_lem}
use Rattle.soundness.proofs.Stretches.{stretches}
use Rattle.soundness.proofs.Surveys.{all_known}

-- ---- M and K, and the states
module _ (s : List ℕ) where
  units_in_lem : units_in (view s) ≡ byte s 6
  unfolding units_in view
  units_in_lem = get_or-take 8 s 6 0 (omega arith)

  level_in_lem : level_in (view s) ≡ byte s 7
  unfolding level_in view
  level_in_lem = get_or-take 8 s 7 0 (omega arith)

  pub units_placed_lem : all 16 (data_fits s) ≡ units_placed (view s)
  unfolding units_placed
  units_placed_lem = rw units_in_lem (unfold view in refl)

  pub checks_placed_lem : all 12 (check_fits s) ≡ checks_placed (view s)
  unfolding checks_placed
  checks_placed_lem = rw (units_in_lem, level_in_lem) (unfold view in refl)

-- ---- the ranges, as the later pieces use them
pub ranged : (s : List ℕ) → ranges s ≡ true → Ranged s
ranged s h =
    let r = in_range s h in
    record { few = r.most; some = r.some; most = r.few; long = r.long }

-- ---- the clauses about each unit, and the clauses of soundness
module _ (s : List ℕ) where
  -- a place of a group, and the unit that stands there
  place_column : (g p r : ℕ) → g < 4 → p < 4 → column_keys s (4 * g + p) r ≡ check_key s (first_check (view s) g) p r
  unfolding column_keys
  place_column g p r h k =
      let e : (4 * g + p) / 4 ≡ g = omega arith in
      let f : (4 * g + p) % 4 ≡ p = omega arith in
      ap₂ (λ i j. strided32 s (check_at (byte s 5) (first_check (view s) i) 0 + 4 * j) check_bytes r) e f

  -- check unit c in service lists, for each place of its group, the keys of the unit there
  abbrev Agree : ℕ → Type 0
  Agree c = byte s (24 + c) ≡ 1 → (r : ℕ) → r < byte s 5 → (p : ℕ) → p < 4 → check_key s c p r ≡ key_of (listed_key (view s) (4 * (c / 3) + p) r)

  test : ℕ → ℕ → ℕ → Bool
  test c r p = eqb (key_of (part (4 * p) 4 ((view s).check c r))) (key_of (listed_key (view s) (4 * (c / 3) + p) r))

  agreeing : lists_agree (view s) ≡ all 12 (λ c. not (eqb (byte s (24 + c)) 1) || all (byte s 5) (λ r. all 4 (test c r)))
  unfolding lists_agree test view
  agreeing = refl

  agree_true : lists_agree (view s) ≡ true → (c : ℕ) → c < 12 → Agree c
  unfolding test
  agree_true h c l e r k p q =
      let row = all_true 12 (λ c. not (eqb (byte s (24 + c)) 1) || all (byte s 5) (λ r. all 4 (test c r))) (sym agreeing ∙ h) c l in
      let ranks = or_other (not (eqb (byte s (24 + c)) 1)) _ (ap not (eq-eqb _ _ e)) row in
      sym (check_key_lem s c p r q) ∙ eqb-true _ _ (all_true 4 (test c r) (all_true (byte s 5) (λ r. all 4 (test c r)) ranks r k) p q)

  agree_holds : ((c : ℕ) → c < 12 → Agree c) → lists_agree (view s) ≡ true
  unfolding test
  agree_holds h =
      agreeing
      ∙ all_holds 12 (λ c. not (eqb (byte s (24 + c)) 1) || all (byte s 5) (λ r. all 4 (test c r))) (λ c l.
      or_else (not (eqb (byte s (24 + c)) 1)) _ (λ e.
      all_holds (byte s 5) (λ r. all 4 (test c r)) (λ r k.
      all_holds 4 (test c r) (λ p q. eq-eqb _ _ (check_key_lem s c p r q ∙ h c l (eqb-true _ _ (not-false (eqb (byte s (24 + c)) 1) e)) r k p q)))))

  -- comparing each check unit with the first_check, and the first_check with the units, compares each check unit with the units
  kept : (c : ℕ) → byte s (24 + c) ≡ 1 → unkept s (c / 3) ≡ false
  unfolding unkept
  kept c e = let l : first_check (view s) (c / 3) ≤ c = first_check_before s c e in ne_eqb (first_check (view s) (c / 3)) (3 * (c / 3) + 3) (λ q. omega arith)

  agree_from : ((u : ℕ) → u < 16 → Unit s u) → ((c : ℕ) → c < 12 → Check s c) → (c : ℕ) → c < 12 → Agree c
  agree_from us cs c l e r k p q =
      let g : (4 * (c / 3) + p) / 4 ≡ c / 3 = omega arith in
      (cs c l).lists e r k p q
      ∙ sym (place_column (c / 3) p r (omega arith) q)
      ∙ (us (4 * (c / 3) + p) (omega arith)).lists (ap (unkept s) g ∙ kept c e) r k

  -- the first_check of a group in which a check unit is in service
  first_check_serves : (g : ℕ) → unkept s g ≡ false
      → (first_check (view s) g < 3 * g + 3) × (3 * g ≤ first_check (view s) g) × (byte s (24 + first_check (view s) g) ≡ 1)
  unfolding unkept first_check view
  first_check_serves g h =
      let p : ℕ → Bool = λ j. eqb (byte s (24 + (3 * g + j))) 1 in
      let n : ℕ = first 3 p in
      let w : n ≤ 3 = first_le 3 p in
      let l : n < 3 = by-test (λ _. n < 3) (ltb n 3) (λ e. ltb-true n 3 e)
      (λ e. absurd (eqb-false (3 * g + n) (3 * g + 3) h (let v : 3 ≤ n = ltb-false n 3 e in omega arith))) in
      (omega arith, omega arith, eqb-true _ _ (first_holds 3 p l))

  first_check_agrees : ((c : ℕ) → c < 12 → Agree c) → (g : ℕ) → g < 4 → unkept s g ≡ false → (r : ℕ) → r < byte s 5 → (p : ℕ) → p < 4
      → check_key s (first_check (view s) g) p r ≡ key_of (listed_key (view s) (4 * g + p) r)
  first_check_agrees h g l e r k p q =
      let c : ℕ = first_check (view s) g in
      let w = first_check_serves g e in
      let f : c / 3 ≡ g = omega arith in
      h c (omega arith) w.2 r k p q ∙ ap (λ i. key_of (listed_key (view s) (4 * i + p) r)) f

  -- ---- the keys
  keys_placed_lem : all 16 (λ u. keys_lost_in (view s) u || keys_good (byte s 5) (byte s 6) u (λ r. key_of (listed_key (view s) u r))) ≡ keys_placed (view s)
  unfolding keys_placed
  keys_placed_lem = rw (units_in_lem s) (unfold keys_good own_and_new is_new fill_of listed_fill view in refl)

  -- ---- the zeros
  slots_zero : ℕ → Bool
  slots_zero u = all (byte s 5) (λ r. (eqb (byte s (8 + u)) 1 && ltb r (fill_in (view s) u)) || same ((view s).slot u r) (zeros slot_bytes))

  checks_zero : ℕ → Bool
  checks_zero c = all (byte s 5) (λ r. eqb (byte s (24 + c)) 1 || same ((view s).check c r) (zeros check_bytes))

  zeroing : zeroed (view s) ≡ (all 16 slots_zero && all 12 checks_zero)
  unfolding zeroed slots_zero checks_zero view
  zeroing = refl

  -- ---- both ways
  module _ (ok : Ranged s) (states : all 16 (data_fits s) ≡ true) where
    state : (u : ℕ) → u < 16 → data_fits s u ≡ true
    state = all_true 16 (data_fits s) states

    from_pieces : (all 16 (unit_asked s) && all 12 (check_good s)) ≡ true → (zeroed (view s) && keys_placed (view s) && lists_agree (view s)) ≡ true
    unfolding slots_zero checks_zero
    from_pieces h =
        let us : (u : ℕ) → u < 16 → Unit s u = λ u l. good_unit s ok u l (state u l) (all_true 16 (unit_asked s) (and_first (all 16 (unit_asked s)) _ h) u l) in
        let cs : (c : ℕ) → c < 12 → Check s c = λ c l. good_check s ok c l (all_true 12 (check_good s) (and_second (all 16 (unit_asked s)) _ h) c l) in
        and-true
        (and-true
        (zeroing ∙ and-true (all_holds 16 slots_zero (λ u l. all_holds (byte s 5) _ (us u l).zero))
        (all_holds 12 checks_zero (λ c l. all_holds (byte s 5) _ (cs c l).zero)))
        (sym keys_placed_lem ∙ all_holds 16 _ (λ u l. (us u l).keys)))
        (agree_holds (agree_from us cs))

    to_pieces : (zeroed (view s) && keys_placed (view s) && lists_agree (view s)) ≡ true → (all 16 (unit_asked s) && all 12 (check_good s)) ≡ true
    unfolding slots_zero checks_zero
    to_pieces h =
        let zk = and_first (zeroed (view s) && keys_placed (view s)) _ h in
        let z = sym zeroing ∙ and_first (zeroed (view s)) _ zk in
        let k = all_true 16 (λ u. keys_lost_in (view s) u || keys_good (byte s 5) (byte s 6) u (λ r. key_of (listed_key (view s) u r)))
        (keys_placed_lem ∙ and_second (zeroed (view s)) _ zk) in
        let a = agree_true (and_second (zeroed (view s) && keys_placed (view s)) _ h) in
        and-true
        (all_holds 16 (unit_asked s) (λ u l.
        unit_good_lem s ok u l (state u l) (record {
          zero = all_true (byte s 5) _ (all_true 16 slots_zero (and_first (all 16 slots_zero) _ z) u l);
          keys = k u l;
          lists = λ e r w.
              let same : 4 * (u / 4) + u % 4 ≡ u = omega arith in
              ap (λ v. column_keys s v r) (sym same)
              ∙ place_column (u / 4) (u % 4) r (omega arith) (omega arith)
              ∙ first_check_agrees a (u / 4) (omega arith) e r w (u % 4) (omega arith)
              ∙ ap (λ v. key_of (listed_key (view s) v r)) same;
        })))
        (all_holds 12 (check_good s) (λ c l.
        check_good_lem s ok c l (record {
          zero = all_true (byte s 5) _ (all_true 12 checks_zero (and_second (all 16 slots_zero) _ z) c l);
          lists = λ e r w p q. a c l e r w p q ∙ sym (first_check_agrees a (c / 3) (omega arith) (kept c e) r w p q);
        })))

    pieces_clauses : (all 16 (unit_asked s) && all 12 (check_good s)) ≡ (zeroed (view s) && keys_placed (view s) && lists_agree (view s))
    pieces_clauses = same_test _ _ from_pieces to_pieces

pub pieces_sound : (s : List ℕ) → pieces s ≡ sound s
unfolding pieces sound
pieces_sound s =
    and_four (ranges s && (all 16 (data_fits s) && all 12 (check_fits s)))
    (all (byte s 6) (unit_good s)) (columns_empty s) (all (3 * groups_in s) (check_good s)) (behind_zero s)
    ∙ ap (λ t. t && tests) (sym (and_assoc (ranges s) (all 16 (data_fits s)) (all 12 (check_fits s)))
    ∙ ap₂ (λ u c. ranges s && u && c) (units_placed_lem s) (checks_placed_lem s))
    ∙ and_ext front tests (zeroed (view s) && keys_placed (view s) && lists_agree (view s)) (λ h.
    let both = and_first (ranges s && units_placed (view s)) _ h in
    let ok = ranged s (and_first (ranges s) _ both) in
    stretches s ok (checks_placed_lem s ∙ and_second (ranges s && units_placed (view s)) _ h)
    ∙ pieces_clauses s ok (units_placed_lem s ∙ and_second (ranges s) _ both))
    ∙ sym (and_three front (zeroed (view s)) (keys_placed (view s)) (lists_agree (view s)))
  where
    front : Bool
    front = ranges s && units_placed (view s) && checks_placed (view s)

    tests : Bool
    tests = all (byte s 6) (unit_good s) && columns_empty s && all (3 * groups_in s) (check_good s) && behind_zero s

-- ---- the whole test
pub not_sound : (s : List ℕ) → false ≡ pieces s → sound s ≡ false
not_sound s h =
    sym (h ∙ pieces_sound s)

module _ {s fills first_checks outs : List ℕ} where
  pub surveyed : ranges s ≡ true → (all 16 (data_fits s) && all 12 (check_fits s)) ≡ true
      → first_checks ≡ entries 4 (first_check (view s)) → outs ≡ entries 4 (outs_in (view s))
      → Some fills ≡ counted_fills s → columns_empty s ≡ true → all (3 * groups_in s) (check_good s) ≡ true → behind_zero s ≡ true
      → Surveyed s true fills first_checks outs
  unfolding pieces counted_fills
  surveyed range states kept out found columns checks zeros =
      let counted = some_told (all (byte s 6) (unit_good s)) (entries 16 (unit_fill s)) found in
      let units : all (byte s 6) (unit_good s) ≡ true = counted.0 in
      let whole : true ≡ pieces s = rw (range, states, units, columns, checks, zeros) in
      let fit = and_first (all 16 (data_fits s)) _ states in
      let ok = ranged s range in
      let asked = and_first (all 16 (unit_asked s)) _ (sym (stretches s ok (and_second (all 16 (data_fits s)) _ states)) ∙ rw (units, columns, checks, zeros)) in
      record {
        tested = whole ∙ pieces_sound s;
        filled =
            counted.1
            ∙ entries_ext 16 (unit_fill s) (λ u. pick true (known_fill (view s) u) 0) (λ u l.
            good_fill s ok u l (all_true 16 (data_fits s) fit u l) (all_true 16 (unit_asked s) asked u l)
            ∙ sym (pick_true refl (known_fill (view s) u) 0));
        kept = all_known 4 (first_check (view s)) refl kept;
        out = all_known 4 (outs_in (view s)) refl out;
      }
