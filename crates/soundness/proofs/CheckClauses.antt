-- The test of one check unit says that it is zero, or lists the same keys as the first check unit in service of its group.
use mathlib.Core.Path.{◌≡◌, sym, ap, ◌∙◌}
use mathlib.Core.Bool.{true, ◌&&◌, ◌||◌}
use mathlib.Core.List.{List}
use Prim.Native.Nat.{ℕ, ◌+◌, ◌*◌, ◌/◌, ◌≤◌, ◌<◌}
use native.Mathlib.Omega.{arith}
use lib.Dec.{eqb}
use lib.ListN.{length}
use borrow.Author.Tests.{eqb-true, eqb-false, eq-eqb}
use Rattle.buffer.specs.Choice.{pick}
use Rattle.buffer.specs.ChoiceLaws.{by-test, pick_true, pick-false}
use Rattle.buffer.specs.TestLaws.{and-true, and_first, and_second, or_else, or_other}
use Rattle.buffer.specs.RangeLaws.{below-four, all_true, all_holds}
use Rattle.buffer.specs.Bytes.{byte, be32, zeros}
use Rattle.model.specs.Layout.{view, check_at}
use Rattle.model.specs.Reads.{first_check}
use Rattle.model.specs.Sound.{same}
use Rattle.buffer.specs.Strided.{strided32}
use Rattle.group.specs.Widths.{check_bytes}
use Rattle.soundness.specs.Keys.{same_pair, same_lists}
use Rattle.soundness.specs.Pieces.{Ranged, same_as_first, check_zero, check_good}
use Rattle.soundness.proofs.Located.{row_within}
use Rattle.soundness.proofs.Zeros.{zero_range, range_zero, check_zero_lem, zero_checks}

-- the key at rank r that check unit c lists for place p of its group
abbrev pub check_key : List ℕ → ℕ → ℕ → ℕ → ℕ
check_key s c p r = strided32 s (check_at (byte s 5) c 0 + 4 * p) check_bytes r

pub record Check (s : List ℕ) (c : ℕ) : Type 0 where
  pub zero : (r : ℕ) → r < byte s 5 → (eqb (byte s (24 + c)) 1 || same ((view s).check c r) (zeros check_bytes)) ≡ true
  pub lists : byte s (24 + c) ≡ 1 → (r : ℕ) → r < byte s 5 → (p : ℕ) → p < 4 → check_key s c p r ≡ check_key s (first_check (view s) (c / 3)) p r

-- the four keys of each record, pair by pair
module _ (s : List ℕ) (x y b : ℕ) where
  Four : ℕ → Type 0
  Four r = (p : ℕ) → p < 4 → strided32 s (x + 4 * p) check_bytes r ≡ strided32 s (y + 4 * p) check_bytes r

  lists_true : same_lists s x y b ≡ true → (r : ℕ) → r < b → Four r
  unfolding same_lists same_pair strided32 Four
  lists_true h r l =
      let q = all_true b (λ r. same_pair s (x + check_bytes * r) (y + check_bytes * r) && same_pair s (x + check_bytes * r + 8) (y + check_bytes * r + 8)) h r l in
      let one = and_first (same_pair s (x + check_bytes * r) (y + check_bytes * r)) _ q in
      let two = and_second (same_pair s (x + check_bytes * r) (y + check_bytes * r)) _ q in
      let a : be32 s (x + check_bytes * r) ≡ be32 s (y + check_bytes * r) =
      eqb-true _ _ (and_first (eqb (be32 s (x + check_bytes * r)) (be32 s (y + check_bytes * r))) _ one) in
      let b : be32 s (x + check_bytes * r + 4) ≡ be32 s (y + check_bytes * r + 4) =
      eqb-true _ _ (and_second (eqb (be32 s (x + check_bytes * r)) (be32 s (y + check_bytes * r))) _ one) in
      let c : be32 s (x + check_bytes * r + 8) ≡ be32 s (y + check_bytes * r + 8) =
      eqb-true _ _ (and_first (eqb (be32 s (x + check_bytes * r + 8)) (be32 s (y + check_bytes * r + 8))) _ two) in
      let d : be32 s (x + check_bytes * r + 8 + 4) ≡ be32 s (y + check_bytes * r + 8 + 4) =
      eqb-true _ _ (and_second (eqb (be32 s (x + check_bytes * r + 8)) (be32 s (y + check_bytes * r + 8))) _ two) in
      below-four
      (λ p. be32 s (x + 4 * p + check_bytes * r) ≡ be32 s (y + 4 * p + check_bytes * r))
      (moved (x + check_bytes * r) (y + check_bytes * r) (x + 4 * 0 + check_bytes * r) (y + 4 * 0 + check_bytes * r) (omega arith) (omega arith) a)
      (moved (x + check_bytes * r + 4) (y + check_bytes * r + 4) (x + 4 * 1 + check_bytes * r) (y + 4 * 1 + check_bytes * r) (omega arith) (omega arith) b)
      (moved (x + check_bytes * r + 8) (y + check_bytes * r + 8) (x + 4 * 2 + check_bytes * r) (y + 4 * 2 + check_bytes * r) (omega arith) (omega arith) c)
      (moved (x + check_bytes * r + 8 + 4) (y + check_bytes * r + 8 + 4) (x + 4 * 3 + check_bytes * r) (y + 4 * 3 + check_bytes * r) (omega arith) (omega arith) d)
    where
      moved : (i j k l : ℕ) → k ≡ i → l ≡ j → be32 s i ≡ be32 s j → be32 s k ≡ be32 s l
      moved i j k l e f g = ap (be32 s) e ∙ g ∙ sym (ap (be32 s) f)

  lists_holds : ((r : ℕ) → r < b → Four r) → same_lists s x y b ≡ true
  unfolding same_lists same_pair strided32 Four
  lists_holds h =
      all_holds b (λ r. same_pair s (x + check_bytes * r) (y + check_bytes * r) && same_pair s (x + check_bytes * r + 8) (y + check_bytes * r + 8)) (λ r l.
      and-true
      (and-true (at r l 0 (x + check_bytes * r) (y + check_bytes * r) (omega arith) (omega arith) (omega arith))
      (at r l 1 (x + check_bytes * r + 4) (y + check_bytes * r + 4) (omega arith) (omega arith) (omega arith)))
      (and-true
      (at r l 2 (x + check_bytes * r + 8) (y + check_bytes * r + 8) (omega arith) (omega arith) (omega arith))
      (at r l 3 (x + check_bytes * r + 8 + 4) (y + check_bytes * r + 8 + 4) (omega arith) (omega arith) (omega arith))))
    where
      at : (r : ℕ) → r < b → (p i j : ℕ) → p < 4 → i ≡ x + 4 * p + check_bytes * r → j ≡ y + 4 * p + check_bytes * r → eqb (be32 s i) (be32 s j) ≡ true
      at r l p i j k e f = eq-eqb _ _ (ap (be32 s) e ∙ h r l p k ∙ sym (ap (be32 s) f))

module _ (s : List ℕ) (ok : Ranged s) (c : ℕ) (low : c < 12) where
  fits : check_at (byte s 5) c 0 + check_bytes * byte s 5 ≤ length s
  fits = omega (arith, row_within 12 c (byte s 5) low, ok.long)

  alike : same_as_first s c ≡ true → (r : ℕ) → r < byte s 5 → (p : ℕ) → p < 4 → check_key s c p r ≡ check_key s (first_check (view s) (c / 3)) p r
  unfolding same_as_first Four
  alike h r l p k =
      by-test (λ _. check_key s c p r ≡ check_key s (first_check (view s) (c / 3)) p r) (eqb (first_check (view s) (c / 3)) c)
      (λ e. ap (λ d. check_key s d p r) (sym (eqb-true _ _ e)))
      (λ e. sym (lists_true s _ _ (byte s 5) (or_other (eqb (first_check (view s) (c / 3)) c) _ e h) r l p k))

  pub good_check : check_good s c ≡ true → Check s c
  unfolding check_good check_zero pick
  good_check =
      by-test (λ t. pick t (same_as_first s c) (check_zero s c) ≡ true → Check s c) (eqb (byte s (24 + c)) 1)
      (λ e h. record { zero = λ r l. rw e; lists = λ _. alike h })
      (λ e h. record { zero = λ r l. rw e (check_zero_lem s c fits (zero_range s _ _ (omega arith) fits h) r l); lists = λ q. absurd (eqb-false _ _ e q) })

  pub check_good_lem : Check s c → check_good s c ≡ true
  unfolding check_good same_as_first check_zero Four
  check_good_lem g =
      by-test (λ _. pick (eqb (byte s (24 + c)) 1) (same_as_first s c) (check_zero s c) ≡ true) (eqb (byte s (24 + c)) 1)
      (λ e. pick_true e _ _
      ∙ or_else (eqb (first_check (view s) (c / 3)) c) _ (λ _. lists_holds s _ _ (byte s 5) (λ r l p k. sym (g.lists (eqb-true _ _ e) r l p k))))
      (λ e. pick-false e _ _ ∙ range_zero s _ _ (omega arith) fits (zero_checks s c fits (λ r l. rw e at (g.zero r l))))
