-- A range of zero bytes, and the slots or check records in it that are zero.
use mathlib.Core.Path.{◌≡◌, sym, ap, ◌∙◌}
use mathlib.Core.Bool.{true}
use mathlib.Core.List.{List}
use Prim.Native.Nat.{ℕ, ◌+◌, ◌*◌, ◌-◌, ◌/◌, ◌≤◌, ◌<◌}
use native.Mathlib.Omega.{arith}
use lib.Dec.{eqb}
use lib.ListN.{length}
use borrow.Author.Tests.{eqb-true, eq-eqb}
use Rattle.buffer.specs.RangeLaws.{all_true, all_holds}
use Rattle.buffer.specs.Bytes.{byte, zeros, part}
use Rattle.buffer.specs.Loops.{all_zero}
use Rattle.buffer.specs.SpliceLaws.{length_part}
use Rattle.buffer.specs.ByteLaws.{byte_part, byte_zeros, zeros_of}
use Rattle.model.specs.Layout.{view, slot_at, check_at}
use Rattle.model.specs.Sound.{same}
use Rattle.model.specs.SoundLaws.{same_true, same_of}
use Rattle.group.specs.Widths.{slot_bytes, check_bytes}
use Rattle.soundness.specs.Pieces.{zero_between}

-- ---- a range of zeros
abbrev pub Zero : List ℕ → ℕ → ℕ → Type 0
Zero s at end = (i : ℕ) → at ≤ i → i < end → byte s i ≡ 0

module _ (s : List ℕ) where
  module _ (at end : ℕ) (start : at ≤ end) (fits : end ≤ length s) where
    long : length (part at (end - at) s) ≡ end - at
    long = length_part at (end - at) s (omega arith)

    here : (i : ℕ) → at ≤ i → i < end → byte (part at (end - at) s) (i - at) ≡ byte s i
    here i l h = let e : at + (i - at) ≡ i = omega arith in byte_part at (end - at) s (i - at) (omega arith) ∙ ap (λ j. byte s j) e

    pub zero_range : zero_between s at end ≡ true → Zero s at end
    unfolding zero_between all_zero
    zero_range h i l k =
        let x : List ℕ = part at (end - at) s in
        sym (here i l k) ∙ eqb-true _ 0 (all_true (length x) (λ j. eqb (byte x j) 0) h (i - at) (omega (arith, long)))

    pub range_zero : Zero s at end → zero_between s at end ≡ true
    unfolding zero_between all_zero
    range_zero z =
        let x : List ℕ = part at (end - at) s in
        all_holds (length x) (λ j. eqb (byte x j) 0) (λ j k.
        let l : j < end - at = omega (arith, long) in
        eq-eqb _ 0 (byte_part at (end - at) s j l ∙ z (at + j) (omega arith) (omega arith)))

  -- one part
  part_zero : (at n : ℕ) → same (part at n s) (zeros n) ≡ true → Zero s at (at + n)
  part_zero at n h i l k =
      let e : at + (i - at) ≡ i = omega arith in
      ap (λ j. byte s j) (sym e) ∙ sym (byte_part at n s (i - at) (omega arith)) ∙ ap (λ x. byte x (i - at)) (same_true (part at n s) (zeros n) h)
      ∙ byte_zeros n (i - at)

  zero_part : (at n : ℕ) → at + n ≤ length s → Zero s at (at + n) → same (part at n s) (zeros n) ≡ true
  zero_part at n l z =
      same_of (part at n s) (zeros n) (zeros_of n (part at n s) (length_part at n s l) (λ i k. byte_part at n s i k ∙ z (at + i) (omega arith) (omega arith)))

  -- ---- the slots of a unit from rank n on
  module _ (u : ℕ) (fits : slot_at (byte s 5) u 0 + slot_bytes * byte s 5 ≤ length s) where
    pub slot_zero : (n : ℕ) → Zero s (slot_at (byte s 5) u 0 + slot_bytes * n) (slot_at (byte s 5) u 0 + slot_bytes * byte s 5)
        → (r : ℕ) → n ≤ r → r < byte s 5 → same ((view s).slot u r) (zeros slot_bytes) ≡ true
    unfolding view
    slot_zero n z r l k = zero_part (slot_at (byte s 5) u r) slot_bytes (omega arith) (λ i p q. z i (omega arith) (omega arith))

    pub zero_slots : (n : ℕ) → ((r : ℕ) → n ≤ r → r < byte s 5 → same ((view s).slot u r) (zeros slot_bytes) ≡ true)
        → Zero s (slot_at (byte s 5) u 0 + slot_bytes * n) (slot_at (byte s 5) u 0 + slot_bytes * byte s 5)
    unfolding view
    zero_slots n h i l k =
        let r : ℕ = (i - slot_at (byte s 5) u 0) / slot_bytes in
        part_zero (slot_at (byte s 5) u r) slot_bytes (h r (omega arith) (omega arith)) i (omega arith) (omega arith)

  -- ---- the records of a check unit
  module _ (c : ℕ) (fits : check_at (byte s 5) c 0 + check_bytes * byte s 5 ≤ length s) where
    pub check_zero_lem : Zero s (check_at (byte s 5) c 0) (check_at (byte s 5) c 0 + check_bytes * byte s 5)
        → (r : ℕ) → r < byte s 5 → same ((view s).check c r) (zeros check_bytes) ≡ true
    unfolding view
    check_zero_lem z r k = zero_part (check_at (byte s 5) c r) check_bytes (omega arith) (λ i p q. z i (omega arith) (omega arith))

    pub zero_checks : ((r : ℕ) → r < byte s 5 → same ((view s).check c r) (zeros check_bytes) ≡ true)
        → Zero s (check_at (byte s 5) c 0) (check_at (byte s 5) c 0 + check_bytes * byte s 5)
    unfolding view
    zero_checks h i l k =
        let r : ℕ = (i - check_at (byte s 5) c 0) / check_bytes in
        part_zero (check_at (byte s 5) c r) check_bytes (h r (omega arith)) i (omega arith) (omega arith)
