-- The picture of a ledger: the sizes of its parts, and that they are read back from the bytes.
use Prim.Native.Nat.{ℕ, ◌+◌, ◌*◌, ◌/◌, ◌%◌}
use mathlib.Core.Path.{◌≡◌, refl}
use mathlib.Core.List.{List}
use lib.Dec.{eqb}
use lib.ListN.{length}
use Rattle.buffer.specs.Bytes.{bytes32, zeros}
use Rattle.buffer.specs.ChoiceLaws.{by-pick, pick_true, pick-false}
use Rattle.buffer.specs.ByteLaws.{length_zeros}
use Rattle.group.specs.Widths.{slot_bytes, check_bytes}
use Rattle.model.specs.Layout.{view, store_bytes, front_of}
use Rattle.model.specs.LayoutLaws.{Shaped, Same, length_bytes, view_bytes}
use Rattle.model.specs.history.Ledger.{Rec, Ledger, record_at, state}
use Rattle.model.specs.history.Picture.{record_bytes, picture_slot, check_over, picture_check, image, picture}
use mathlib.Core.Bool.{true, false}
use Rattle.model.proofs.history.ledger.Valid.{Good, Goods}
use Rattle.model.proofs.history.picture.Records.{length_record, length_over}

-- a unit in service shows its records, and any other zeros; so too a check unit
module _ (l : Ledger) (u r : ℕ) where
  pub slot_on : eqb (state l u) 1 ≡ true → picture_slot l u r ≡ record_bytes (record_at l u r)
  unfolding picture_slot
  slot_on e = pick_true e (record_bytes (record_at l u r)) (zeros slot_bytes)

  pub slot_off : eqb (state l u) 1 ≡ false → picture_slot l u r ≡ zeros slot_bytes
  unfolding picture_slot
  slot_off e = pick-false e (record_bytes (record_at l u r)) (zeros slot_bytes)

module _ (l : Ledger) (c r : ℕ) where
  pub check_on : eqb (state l (16 + c)) 1 ≡ true → picture_check l c r ≡ check_over (c % 3) (λ p. record_at l (4 * (c / 3) + p) r)
  unfolding picture_check
  check_on e = pick_true e (check_over (c % 3) (λ p. record_at l (4 * (c / 3) + p) r)) (zeros check_bytes)

  pub check_off : eqb (state l (16 + c)) 1 ≡ false → picture_check l c r ≡ zeros check_bytes
  unfolding picture_check
  check_off e = pick-false e (check_over (c % 3) (λ p. record_at l (4 * (c / 3) + p) r)) (zeros check_bytes)

length_slot : (l : Ledger) (u r : ℕ) → Good (record_at l u r) → length (picture_slot l u r) ≡ slot_bytes
unfolding picture_slot
length_slot l u r h =
    by-pick (λ (x : List ℕ). length x ≡ slot_bytes) (eqb (state l u) 1) (record_bytes (record_at l u r)) (zeros slot_bytes)
    (λ e. length_record (record_at l u r) h) (λ e. length_zeros slot_bytes)

length_check : (l : Ledger) (c r : ℕ) → ((u : ℕ) → Good (record_at l u r)) → length (picture_check l c r) ≡ check_bytes
unfolding picture_check
length_check l c r h =
    let f : ℕ → Rec = λ p. record_at l (4 * (c / 3) + p) r in
    by-pick (λ (x : List ℕ). length x ≡ check_bytes) (eqb (state l (16 + c)) 1) (check_over (c % 3) f) (zeros check_bytes)
    (λ e. length_over (c % 3) f (λ p. h (4 * (c / 3) + p))) (λ e. length_zeros check_bytes)

pub image_shaped : (l : Ledger) (rest : List ℕ) → Goods l → Shaped (image l rest)
unfolding image front_of bytes32
image_shaped l rest h = record {
  front = refl;
  size = refl;
  slot = λ u r a b. length_slot l u r (h u r);
  check = λ c r a b. length_check l c r (λ u. h u r);
}

pub length_picture : (l : Ledger) (rest : List ℕ) → Goods l → length (picture l rest) ≡ store_bytes l.size + length rest
unfolding image
length_picture l rest h = length_bytes (image l rest) (image_shaped l rest h)

-- what is read back from the picture
pub seen : (l : Ledger) (rest : List ℕ) → Goods l → Same (view (picture l rest)) (image l rest)
seen l rest h = view_bytes (image l rest) (image_shaped l rest h)
