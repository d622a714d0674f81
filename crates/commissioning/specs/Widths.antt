-- The numbers that document 02 names (ask 4), computed from the one width of a field (`widths`), and commissioning values 9 and 11 with them: of every
-- slice, and of every store, key and field (`value_9`, `value_11`).
use Rattle.std.specs.Prelude.{ℕ, ◌+◌, ◌*◌, ◌≡◌, refl, ◌≢◌, List, [], ◌∷◌, ◌++◌, not, eqb, length}
use Rattle.std.proofs.Common.{arith, ne_eqb, lt-ltb, le-ltb}
use Rattle.algebra.specs.Polynomial.{All}
use Rattle.buffer.specs.Choice.{pick}
use Rattle.buffer.specs.ChoiceLaws.{pick_same}
use Rattle.buffer.specs.Bytes.{be32, zeros}
use Rattle.group.specs.Widths.{body_bytes, stamp_bytes, field_bytes, slot_bytes, check_bytes}
use Rattle.model.specs.Layout.{version, store_bytes}
use Rattle.model.specs.Field.{stamp_of}
use Rattle.model.specs.Numbers.{teach, correct, read, refusals_in, first_of, number_in}
use Rattle.model.specs.Perform.{lay_out_number}
use Rattle.lines.specs.Digits.{field_digits}

-- what is computed, and what the document says
unfoldable pub named : List (ℕ × ℕ)
named =
    -- "Record and parity fields grow to 20 bytes: the body and a 32-bit stamp, big-endian"
    (body_bytes, 16) ∷ (stamp_bytes, 4) ∷ (field_bytes, 20) ∷ (stamp_of (zeros body_bytes ++ (1 ∷ 2 ∷ 3 ∷ 4 ∷ [])), 0x01020304)
    -- "Slots are 24 bytes, check records 36 .. the version byte 4 .. A list entry is 24 bytes"
    ∷ (slot_bytes, 24) ∷ (check_bytes, 36) ∷ (version, 4)
    -- "hallrun's body argument and answer have 40 digits, and its store buffer is 52,260 bytes"
    ∷ (field_digits, 40) ∷ (store_bytes 64, 52260)
    ∷ []

pub widths : All (λ row. row.0 ≡ row.1) named
unfolding named stamp_of be32 zeros
widths = (refl, (refl, (refl, (refl, (refl, (refl, (refl, (refl, (refl, tt)))))))))

-- "a store 36 + 816b"
pub store_length : (b : ℕ) → store_bytes b ≡ 36 + 816 * b
store_length b = omega arith

-- 9. "b = 1: slice of 852 laid out, 851 gives 7; b = 65 gives 2."
pub value_9 : (s : List ℕ) → (length s ≡ 852 → lay_out_number s 1 ≡ 0) × (length s ≡ 851 → lay_out_number s 1 ≡ 7) × (lay_out_number s 65 ≡ 2)
unfolding lay_out_number first_of pick
value_9 s = (
  λ e. rw (le-ltb (length s) 852 (omega arith)),
  λ e. rw (lt-ltb (length s) 852 (omega arith)),
  refl,
)

-- 11. "Body of 19 or 21 bytes gives 2": of a field of any other length than 20
pub value_11 : (s x : List ℕ) (k : ℕ) → length x ≢ 20 → (number_in s (teach k x) ≡ 2) × (number_in s (correct k x) ≡ 2) × (number_in s (read k x) ≡ 2)
unfolding number_in refusals_in first_of pick
value_11 s x k e =
    let other : (n : ℕ) → pick (eqb k 0) 2 (pick (not (eqb (length x) field_bytes)) 2 n) ≡ 2 =
    λ n. rw (ne_eqb (length x) field_bytes e) (pick_same (eqb k 0) 2) in
    (other _, other _, other _)
