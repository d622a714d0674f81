-- The ends of the tests of one unit: what each `return` says, from what the tests before it found.
use mathlib.Core.Path.{◌≡◌, sym, ap, ap₂, ◌∙◌}
use mathlib.Core.Bool.{Bool, false}
use mathlib.Core.List.{List}
use Prim.Native.Nat.{ℕ, ◌+◌, ◌*◌, ◌/◌, ◌%◌, ◌≤◌, ◌<◌}
use native.Mathlib.Omega.{arith}
use lib.Dec.{eqb}
use lib.ListN.{get_or}
use borrow.Author.Tests.{eq-eqb, eqb-false, ne_eqb}
use Rattle.buffer.specs.Range.{first, count}
use Rattle.buffer.specs.Loops.{entries}
use Rattle.buffer.specs.RangeLaws.{get_or_entries, first_le, first_le_at, count_ext}
use Rattle.buffer.specs.Bytes.{byte}
use Rattle.group.specs.Members.{outs}
use Rattle.model.specs.Layout.{view, slot_at, check_at}
use Rattle.model.specs.Reads.{first_check, outs_in}
use Rattle.group.specs.Widths.{slot_bytes, check_bytes}
use Rattle.soundness.specs.Keys.{no_keys, same_lists}
use Rattle.soundness.specs.Pieces.{Kept, zero_between, column_keys, unkept, data_fill, unit_zero, rest_zero, check_zero}

-- ---- the first check unit in service of a group, as the code reads it at an index i of all four
pub found_at : (s : List ℕ) {first_checks : List ℕ} {i : ℕ} (g : ℕ) → first_checks ≡ entries 4 (first_check (view s)) → i ≡ g → g < 4
    → get_or first_checks i 0 ≡ first_check (view s) g
found_at s g h e l = ap₂ (λ x j. get_or x j 0) h e ∙ get_or_entries 4 (first_check (view s)) g 0 l

pub kept_here : (s : List ℕ) (g : ℕ) {k : ℕ} → k ≡ first_check (view s) g → Kept s g k
kept_here s g e =
    let most : first_check (view s) g ≤ 3 * g + 3 = unfold first_check view in omega (arith, first_le 3 (λ j. eqb (byte s (24 + (3 * g + j))) 1)) in
    record { found = e; most = omega arith }

-- the places that the code computes of b slots
pub unit_place : (s : List ℕ) (u : ℕ) {b m at : ℕ} → b ≡ byte s 5 → m ≡ u → at ≡ slot_at b m 0 → at ≡ slot_at (byte s 5) u 0
unit_place s u e f h = h ∙ ap₂ (λ b m. slot_at b m 0) e f

pub check_place : (s : List ℕ) (c : ℕ) {b m at : ℕ} → b ≡ byte s 5 → m ≡ c → at ≡ check_at b m 0 → at ≡ check_at (byte s 5) c 0
check_place s c e f h = h ∙ ap₂ (λ b m. check_at b m 0) e f

-- the units out of a group: four states from 8 + 4g on, three from 24 + 3g on
pub group_outs : (s : List ℕ) (g : ℕ) {w a b : ℕ} → w ≡ g → a ≡ count 4 (λ i. eqb (byte s (8 + 4 * w + i)) 2)
    → b ≡ count 3 (λ i. eqb (byte s (24 + 3 * w + i)) 2)
    → a + b ≡ outs_in (view s) g
unfolding outs_in outs view
group_outs s g e f h =
    ap₂
    (λ x y. x + y)
    (f ∙ count_ext 4 _ _ (λ i _. ap (λ j. eqb (byte s j) 2) (omega arith)))
    (h ∙ count_ext 3 _ _ (λ i _. ap (λ j. eqb (byte s j) 2) (omega arith)))

-- ---- whether a check unit of the group is in service
-- one that is there is of the group
pub kept_below : {s : List ℕ} {g k : ℕ} → Kept s g k → unkept s g ≡ false → k < 3 * g + 3
unfolding unkept
kept_below {s} {g} {k} kept e =
    let other : k ≡ 3 * g + 3 → ⊥ = λ h. eqb-false (first_check (view s) g) (3 * g + 3) e (sym kept.found ∙ h) in
    omega (arith, other, kept.most)

pub is_kept : (s : List ℕ) (g : ℕ) {k : ℕ} → k ≡ first_check (view s) g → (k ≡ 3 * g + 3 → ⊥) → unkept s g ≡ false
unfolding unkept
is_kept s g e f = ne_eqb _ _ (λ h. f (e ∙ h))

-- a check unit in service has a first_check, at its own place or before
pub first_check_before : (s : List ℕ) (c : ℕ) → byte s (24 + c) ≡ 1 → first_check (view s) (c / 3) ≤ c
unfolding first_check view
first_check_before s c e =
    let q : 3 * (c / 3) + c % 3 ≡ c = omega arith in
    let h : first 3 (λ j. eqb (byte s (24 + (3 * (c / 3) + j))) 1) ≤ c % 3 =
    first_le_at 3 (λ j. eqb (byte s (24 + (3 * (c / 3) + j))) 1) (c % 3) (omega arith) (eq-eqb _ _ (ap (λ i. byte s (24 + i)) q ∙ e)) in
    omega arith

-- ---- what the callees found at the places that the code computed: unit u's slots at `at`, its b ranks as `w`, its column at `to`
module _ (s : List ℕ) (u : ℕ) {w : ℕ} (width : w ≡ byte s 5) where
  -- the end of its slots
  end : {at : ℕ} → at ≡ slot_at (byte s 5) u 0 → at + slot_bytes * w ≡ slot_at (byte s 5) u 0 + slot_bytes * byte s 5
  end e = ap₂ (λ a b. a + slot_bytes * b) e width

  pub unit_zero_lem : {at : ℕ} {r : Bool} → at ≡ slot_at (byte s 5) u 0 → r ≡ zero_between s at (at + slot_bytes * w) → r ≡ unit_zero s u
  unfolding unit_zero
  unit_zero_lem e h = h ∙ ap₂ (zero_between s) e (end e)

  pub rest_zero_lem : {at n : ℕ} {r : Bool} → at ≡ slot_at (byte s 5) u 0 → n ≡ data_fill s u → r ≡ zero_between s (at + slot_bytes * n) (at + slot_bytes * w)
      → r ≡ rest_zero s u
  unfolding rest_zero
  rest_zero_lem e f h = h ∙ ap₂ (zero_between s) (ap₂ (λ a k. a + slot_bytes * k) e f) (end e)

  pub column_none : {key : ℕ → ℕ} {n k : ℕ} {r : Bool} → key ≡ column_keys s u → n ≡ k → r ≡ no_keys n w key → r ≡ no_keys k (byte s 5) (column_keys s u)
  column_none {key} {k = k} e f h = h ∙ ap₂ (λ i b. no_keys i b key) f width ∙ ap (no_keys k (byte s 5)) e

-- ---- and of a check unit
module _ (s : List ℕ) (c : ℕ) {w at : ℕ} (width : w ≡ byte s 5) (place : at ≡ check_at (byte s 5) c 0) where
  pub check_unit_zero : {r : Bool} → r ≡ zero_between s at (at + check_bytes * w) → r ≡ check_zero s c
  unfolding check_zero
  check_unit_zero h = h ∙ ap₂ (zero_between s) place (ap₂ (λ a b. a + check_bytes * b) place width)

  pub check_unit_same : {r : Bool} {k to : ℕ} → k ≡ first_check (view s) (c / 3) → to ≡ check_at (byte s 5) k 0 → r ≡ same_lists s to at w
      → r ≡ same_lists s (check_at (byte s 5) (first_check (view s) (c / 3)) 0) (check_at (byte s 5) c 0) (byte s 5)
  check_unit_same e f h =
      h
      ∙ ap₂ (λ x y. same_lists s x y w) (f ∙ ap (λ i. check_at (byte s 5) i 0) e) place
      ∙ ap (same_lists s (check_at (byte s 5) (first_check (view s) (c / 3)) 0) (check_at (byte s 5) c 0)) width
