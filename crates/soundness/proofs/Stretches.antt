-- The units not in place, tested in stretches, are tested one by one.
use mathlib.Core.Path.{◌≡◌, sym, ap, ◌∙◌}
use mathlib.Core.Bool.{Bool, true, false, ◌&&◌, ◌||◌}
use mathlib.Core.List.{List}
use mathlib.Core.Logic.{⊎_elim}
use Prim.Native.Nat.{ℕ, zero, suc, ◌+◌, ◌*◌, ◌/◌, ◌≤◌, ◌<◌}
use native.Mathlib.Nat.{suc-mul, le_of_suc-le-suc, eq-or-lt_of_le}
use native.Mathlib.Omega.{arith}
use lib.Dec.{eqb, ltb}
use lib.ListN.{length}
use borrow.Author.Tests.{eqb-true, eqb-false, ne_eqb, lt-ltb, le-ltb, ltb-true, ltb-false}
use Rattle.buffer.specs.ChoiceLaws.{by-test, by-pick, pick_true, pick-false}
use Rattle.buffer.specs.TestLaws.{and-true, and_first, and_second, and_false_first, or_else, or_other, same_test}
use Rattle.buffer.specs.Range.{all, first}
use Rattle.buffer.specs.RangeLaws.{all_true, all_holds, first_none}
use Rattle.buffer.specs.Bytes.{byte}
use Rattle.model.specs.Layout.{view, slot_at, check_at}
use Rattle.model.specs.Reads.{first_check}
use Rattle.model.specs.Sound.{state_fits, check_placed}
use Rattle.group.specs.Widths.{slot_bytes, check_bytes}
use Rattle.soundness.specs.Pieces.{Ranged, zero_between, check_fits, unkept, unit_zero, none_behind, unit_good}
use Rattle.soundness.specs.Pieces.{groups_in, columns_empty, behind_zero, same_as_first, check_zero, check_good}
use Rattle.soundness.proofs.Zeros.{Zero, zero_range, range_zero}
use Rattle.soundness.proofs.UnitClauses.{absent, unit_asked}

-- ---- rows of w bytes each, one behind the other
module _ (s : List ℕ) (at : ℕ → ℕ) (w : ℕ) (next : (u : ℕ) → at (suc u) ≡ at u + w) where
  later : (n m : ℕ) → n ≤ m → at n ≤ at m
  later n zero h = let e : n ≡ 0 = omega arith in rw e (omega arith)
  later n (suc m) h =
      ⊎_elim (λ e. rw e (omega arith)) (λ l. let ih : at n ≤ at m = later n m (le_of_suc-le-suc l) in omega (arith, next m)) (eq-or-lt_of_le h)

  all_rows : (n m : ℕ) → ((u : ℕ) → n ≤ u → u < m → Zero s (at u) (at u + w)) → Zero s (at n) (at m)
  all_rows n zero z i l h = absurd (omega (arith, later 0 n (omega arith)))
  all_rows n (suc m) z i l h =
      by-test
      (λ _. byte s i ≡ 0)
      (ltb i (at m))
      (λ e. all_rows n m (λ u p q. z u p (omega arith)) i l (ltb-true i (at m) e))
      (λ e.
      by-test
      (λ _. byte s i ≡ 0)
      (ltb m n)
      (λ f. let past : m < n = ltb-true m n f in absurd (omega (arith, later (suc m) n (omega arith))))
      (λ f. z m (ltb-false m n f) (omega arith) i (ltb-false i (at m) e) (omega (arith, next m))))

  module _ (end : ℕ) (fits : at end ≤ length s) where
    pub apart : (n u : ℕ) → n ≤ u → u < end → zero_between s (at n) (at end) ≡ true → zero_between s (at u) (at u + w) ≡ true
    apart n u l h z =
        let before : at n ≤ at u = later n u l in
        let behind : at u + w ≤ at end = omega (arith, next u, later (suc u) end (omega arith)) in
        range_zero s (at u) (at u + w) (omega arith) (omega arith) (λ i p q.
        zero_range s (at n) (at end) (later n end (omega arith)) fits z i (omega arith) (omega arith))

    pub together : (n : ℕ) → n ≤ end → ((u : ℕ) → n ≤ u → u < end → zero_between s (at u) (at u + w) ≡ true) → zero_between s (at n) (at end) ≡ true
    together n l z =
        range_zero s (at n) (at end) (later n end l) fits (all_rows n end (λ u p q.
        zero_range s (at u) (at u + w) (omega arith) (omega (arith, next u, later (suc u) end (omega arith))) (z u p q)))

next_slots : (b u : ℕ) → slot_at b (suc u) 0 ≡ slot_at b u 0 + slot_bytes * b
next_slots b u = omega (arith, suc-mul u b)

next_checks : (b c : ℕ) → check_at b (suc c) 0 ≡ check_at b c 0 + check_bytes * b
next_checks b c = omega (arith, suc-mul c b)

module _ (s : List ℕ) (ok : Ranged s) (states : all 12 (check_fits s) ≡ true) where
  most_groups : groups_in s ≤ 4
  unfolding groups_in
  most_groups = omega (arith, ok.most)

  -- ---- no check unit of a group that is not in place is in service
  off : (c : ℕ) → c < 12 → 3 * groups_in s ≤ c → byte s (24 + c) ≡ 0
  unfolding groups_in state_fits check_placed
  off c l h =
      let past : byte s 6 ≤ 4 * (c / 3) = omega arith in
      eqb-true _ 0 (sym (pick-false (and_false_first (le-ltb _ _ past) _) _ _) ∙ all_true 12 (check_fits s) states c l)

  unlisted : (u : ℕ) → u < 16 → 4 * groups_in s ≤ u → none_behind s u 0 ≡ true
  unfolding none_behind unkept first_check view
  unlisted u l h =
      let none : first 3 (λ j. eqb (byte s (24 + (3 * (u / 4) + j))) 1) ≡ 3 =
      first_none 3 _ (λ j k. ne_eqb (byte s (24 + (3 * (u / 4) + j))) 1 (λ e. absurd (omega (arith, off (3 * (u / 4) + j) (omega arith) (omega arith))))) in
      or_else (unkept s (u / 4)) _ (λ e. absurd (eqb-false _ _ e (ap (λ n. 3 * (u / 4) + n) none)))

  -- of those nothing is asked but zeros
  empty_check : (c : ℕ) → c < 12 → 3 * groups_in s ≤ c → check_good s c ≡ zero_between s (check_at (byte s 5) c 0) (check_at (byte s 5) c 0 + check_bytes * byte s 5)
  unfolding check_good check_zero
  empty_check c l h = pick-false (ne_eqb (byte s (24 + c)) 1 (λ e. absurd (omega (arith, off c l h)))) (same_as_first s c) _

  slots_end : slot_at (byte s 5) 16 0 ≤ length s
  slots_end = omega (arith, ok.long)

  checks_end : check_at (byte s 5) 12 0 ≤ length s
  checks_end = omega (arith, ok.long)

  -- ---- the tests of the units in place and of the stretches behind them
  one_by_one : (all (byte s 6) (unit_good s) && columns_empty s && all (3 * groups_in s) (check_good s) && behind_zero s) ≡ true
      → (all 16 (unit_asked s) && all 12 (check_good s)) ≡ true
  unfolding columns_empty behind_zero unit_asked absent unit_zero
  one_by_one h =
      let units : Bool = all (byte s 6) (unit_good s) in
      let checks : Bool = all (3 * groups_in s) (check_good s) in
      let front = and_first (units && columns_empty s && checks) _ h in
      let behind = and_second (units && columns_empty s && checks) _ h in
      let half = and_first (units && columns_empty s) _ front in
      let slots : Bool = zero_between s (slot_at (byte s 5) (byte s 6) 0) (slot_at (byte s 5) 16 0) in
      and-true
      (all_holds 16 (unit_asked s) (λ u l.
      by-pick
      (λ t. t ≡ true)
      (ltb u (byte s 6))
      (unit_good s u)
      (absent s u)
      (λ e. all_true (byte s 6) (unit_good s) (and_first units _ half) u (ltb-true u (byte s 6) e))
      (λ e.
      and-true
      (apart s (λ u. slot_at (byte s 5) u 0) (slot_bytes * byte s 5) (next_slots (byte s 5)) 16 slots_end (byte s 6) u (ltb-false u (byte s 6) e) l
      (and_first slots _ behind))
      (by-test
      (λ _. none_behind s u 0 ≡ true)
      (ltb u (4 * groups_in s))
      (λ f.
      or_other (ltb u (byte s 6)) _ e
      (all_true (4 * groups_in s) (λ u. ltb u (byte s 6) || none_behind s u 0) (and_second units _ half) u (ltb-true u (4 * groups_in s) f)))
      (λ f. unlisted u l (ltb-false u (4 * groups_in s) f))))))
      (all_holds 12 (check_good s) (λ c l.
      by-test
      (λ _. check_good s c ≡ true)
      (ltb c (3 * groups_in s))
      (λ e. all_true (3 * groups_in s) (check_good s) (and_second (units && columns_empty s) _ front) c (ltb-true c (3 * groups_in s) e))
      (λ e. let past : 3 * groups_in s ≤ c = ltb-false c (3 * groups_in s) e in empty_check c l past
      ∙ apart s (λ c. check_at (byte s 5) c 0) (check_bytes * byte s 5) (next_checks (byte s 5)) 12 checks_end (3 * groups_in s) c past l
      (and_second slots _ behind))))

  in_stretches : (all 16 (unit_asked s) && all 12 (check_good s)) ≡ true
      → (all (byte s 6) (unit_good s) && columns_empty s && all (3 * groups_in s) (check_good s) && behind_zero s) ≡ true
  unfolding columns_empty behind_zero unit_asked absent unit_zero
  in_stretches h =
      let asked = all_true 16 (unit_asked s) (and_first (all 16 (unit_asked s)) _ h) in
      let checks = all_true 12 (check_good s) (and_second (all 16 (unit_asked s)) _ h) in
      let gone : (u : ℕ) → u < 16 → ltb u (byte s 6) ≡ false → (unit_zero s u && none_behind s u 0) ≡ true =
      λ u l e. sym (pick-false e _ _) ∙ asked u l in
      and-true
      (and-true
      (and-true
      (all_holds (byte s 6) (unit_good s) (λ u l. sym (pick_true (lt-ltb u (byte s 6) l) _ _) ∙ asked u (omega (arith, ok.most))))
      (all_holds (4 * groups_in s) (λ u. ltb u (byte s 6) || none_behind s u 0) (λ u l.
      or_else (ltb u (byte s 6)) _ (λ e. and_second (unit_zero s u) _ (gone u (omega (arith, most_groups)) e)))))
      (all_holds (3 * groups_in s) (check_good s) (λ c l. checks c (omega (arith, most_groups)))))
      (and-true
      (together s (λ u. slot_at (byte s 5) u 0) (slot_bytes * byte s 5) (next_slots (byte s 5)) 16 slots_end (byte s 6) ok.most (λ u p q.
      and_first (unit_zero s u) _ (gone u q (le-ltb u (byte s 6) p))))
      (together s (λ c. check_at (byte s 5) c 0) (check_bytes * byte s 5) (next_checks (byte s 5)) 12 checks_end (3 * groups_in s)
      (omega (arith, most_groups)) (λ c p q. sym (empty_check c q p) ∙ checks c q)))

  pub stretches : (all (byte s 6) (unit_good s) && columns_empty s && all (3 * groups_in s) (check_good s) && behind_zero s)
      ≡ (all 16 (unit_asked s) && all 12 (check_good s))
  stretches = same_test _ _ one_by_one in_stretches
