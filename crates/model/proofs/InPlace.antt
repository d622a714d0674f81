-- Demand 1 for reading in place: the part is a whole field, body and stamp, inside the store, the one that read, given a buffer that fits, hands back, or it
-- is empty, exactly where that read would refuse or the key's unit is out.
use Prim.Native.Nat.{ℕ, suc, ◌+◌, ◌*◌, ◌≤◌, ◌<◌}
use mathlib.Core.Path.{◌≡◌, refl, sym, ap, ◌∙◌}
use mathlib.Core.List.{List, []}
use mathlib.Core.Bool.{Bool, true, false, not, ◌&&◌}
use native.Mathlib.Omega.{arith}
use native.Mathlib.Nat.{mul-le-mul_right}
use lib.Dec.{eqb}
use lib.ListN.{length, drop}
use lib.Seq.{take_all}
use borrow.Author.Tests.{eqb-true, eq-eqb, ne_eqb, leb-false, not-true, not-false}
use Rattle.buffer.specs.Choice.{pick}
use Rattle.buffer.specs.ChoiceLaws.{pick_true, pick-false, by-pick}
use Rattle.buffer.specs.TestLaws.{and-true, and_first, and_second}
use Rattle.buffer.specs.Bytes.{byte, zeros, part}
use Rattle.buffer.specs.ByteLaws.{length_zeros}
use Rattle.buffer.specs.SpliceLaws.{length_part, part_part}
use Rattle.group.specs.Widths.{key_bytes, field_bytes, slot_bytes}
use Rattle.group.proofs.CheckRecordLaws.{length_body}
use Rattle.model.specs.UnitLaws.{unit_below}
use Rattle.model.specs.Layout.{Store, view, slot_at, units_in}
use Rattle.model.specs.LayoutLaws.{view_shaped}
use Rattle.model.specs.Reads.{home_in, rank_in, listed_fill, listed_rank, whole_slot, field_in}
use Rattle.model.proofs.ReadLaws.{fill_le, own_fill, own_rank, whole_own}
use Rattle.model.specs.Sound.{sound}
use Rattle.model.proofs.SoundSays.{ranged, units_some, units_few}
use Rattle.model.specs.Numbers.{read, read_in_place, refusals_in, number_in}
use Rattle.model.specs.RowLaws.{Free, first_free}
use Rattle.model.specs.Perform.{Place, place_in, given_in}
use Rattle.model.specs.Demand1.{InPlace}
use Rattle.model.proofs.Refusals.{in_place_store, part_none}

-- read's number depends on the length of its buffer alone
same_length : (s : List ℕ) (k : ℕ) (x y : List ℕ) → length x ≡ length y → number_in s (read k x) ≡ number_in s (read k y)
unfolding number_in refusals_in
same_length s k x y e = rw e

-- the field in a slot of a store's bytes
pub slot_field : (x : List ℕ) (u r : ℕ) → part (slot_at (view x).size u r + key_bytes) field_bytes x ≡ part key_bytes field_bytes ((view x).slot u r)
unfolding view
slot_field x u r = sym (part_part (slot_at (view x).size u r) slot_bytes key_bytes field_bytes x (omega arith))

-- ---- what soundness says of the bytes

module _ (s : List ℕ) (ok : sound s ≡ true) where
  pub home_low : (k : ℕ) → home_in (view s) k < 16
  unfolding home_in
  home_low k = omega (arith, unit_below (units_in (view s)) k (units_some s ok), units_few s ok)

  -- the field of a slot lies inside the store
  inside : (u r : ℕ) → u < 16 → r < (view s).size → slot_at (view s).size u r + key_bytes + field_bytes ≤ length s
  unfolding view
  inside u r a b =
      let p : suc u * byte s 5 ≤ 16 * byte s 5 = mul-le-mul_right (byte s 5) a in
      omega (arith, (ranged s ok).long)

-- ---- a granted read, of a unit that is not out

module _ (s : List ℕ) (k : ℕ) (zero : number_in s (read k (zeros field_bytes)) ≡ 0) where
  free : Free (refusals_in (sound s) (view s) (read k (zeros field_bytes)))
  unfolding number_in refusals_in
  free = first_free (refusals_in (sound s) (view s) (read k (zeros field_bytes))) (refl, (refl, (refl, (refl, (refl, tt))))) zero

  is_sound : sound s ≡ true
  unfolding refusals_in
  is_sound = not-false (sound s) free.1.1.0

  found : listed_rank (view s) (home_in (view s) k) k < listed_fill (view s) (home_in (view s) k)
  unfolding refusals_in
  found = leb-false (listed_fill (view s) (home_in (view s) k)) (listed_rank (view s) (home_in (view s) k) k) free.1.1.1.1.0

  module _ (kept : eqb ((view s).dstate (home_in (view s) k)) 2 ≡ false) where
    abbrev v : Store
    v = view s

    abbrev u : ℕ
    u = home_in (view s) k

    in_unit : rank_in v u k < v.size
    in_unit = omega (arith, found, own_rank v u kept k, own_fill v u kept, fill_le v u)

    field_length : length (part (slot_at v.size u (rank_in v u k) + key_bytes) field_bytes s) ≡ field_bytes
    field_length = length_part (slot_at v.size u (rank_in v u k) + key_bytes) field_bytes s (inside s is_sound u (rank_in v u k) (home_low s is_sound k) in_unit)

    -- it is the key's field
    field_there : part (slot_at v.size u (rank_in v u k) + key_bytes) field_bytes s ≡ field_in v k
    unfolding field_in part
    field_there =
        let slot : List ℕ = v.slot u (rank_in v u k) in
        let long : length slot ≡ slot_bytes = (view_shaped s (ranged s is_sound).long).slot u (rank_in v u k) (home_low s is_sound k) in_unit in
        slot_field s u (rank_in v u k)
        ∙ take_all field_bytes (drop key_bytes slot) (omega (arith, length_body field_bytes slot long))
        ∙ sym (ap (λ (r : ℕ). drop key_bytes (whole_slot v u r)) (own_rank v u kept k) ∙ ap (drop key_bytes) (whole_own v u kept (rank_in v u k)))

-- ---- the part

module _ (s : List ℕ) (k : ℕ) where
  -- read is granted, and the unit is not out
  abbrev grants : Bool
  grants = eqb (number_in s (read k (zeros field_bytes))) 0

  abbrev serves : Bool
  serves = not (eqb ((view s).dstate (home_in (view s) k)) 2)

  pub place_given : (eqb (number_in s (read k (zeros field_bytes))) 0 && not (eqb ((view s).dstate (home_in (view s) k)) 2)) ≡ true
      → given_in s (read_in_place k) ≡ part (slot_at (view s).size (home_in (view s) k) (rank_in (view s) (home_in (view s) k) k) + key_bytes) field_bytes s
  unfolding given_in place_in
  place_given e = ap (λ (p : Place). part p.at p.size s) (pick_true e _ _)

  pub place_none : (eqb (number_in s (read k (zeros field_bytes))) 0 && not (eqb ((view s).dstate (home_in (view s) k)) 2)) ≡ false → given_in s (read_in_place k) ≡ []
  unfolding given_in place_in
  place_none e = ap (λ (p : Place). part p.at p.size s) (pick-false e _ _) ∙ part_none s

  part_length : length (given_in s (read_in_place k)) ≡ pick (grants && serves) field_bytes 0
  part_length =
      by-pick (λ (n : ℕ). length (given_in s (read_in_place k)) ≡ n) (grants && serves) field_bytes 0
      (λ e.
      let zero : number_in s (read k (zeros field_bytes)) ≡ 0 = eqb-true (number_in s (read k (zeros field_bytes))) 0 (and_first grants serves e) in
      ap length (place_given e) ∙ field_length s k zero (not-true (eqb ((view s).dstate (home_in (view s) k)) 2) (and_second grants serves e)))
      (λ e. ap length (place_none e))

  -- read into any buffer that fits
  as_zeros : (out : List ℕ) → length out ≡ field_bytes → number_in s (read k out) ≡ number_in s (read k (zeros field_bytes))
  as_zeros out fits = same_length s k out (zeros field_bytes) (fits ∙ sym (length_zeros field_bytes))

  read_gives : (out : List ℕ) → given_in s (read k out) ≡ field_in (view s) k
  unfolding given_in
  read_gives out = refl

  pub in_place : InPlace s k
  in_place = record {
    untouched = in_place_store s k;
    exactly = λ out fits. rw (as_zeros out fits) part_length;
    same = λ out fits zero kept.
        let granted : number_in s (read k (zeros field_bytes)) ≡ 0 = sym (as_zeros out fits) ∙ zero in
        let stays : eqb ((view s).dstate (home_in (view s) k)) 2 ≡ false = ne_eqb ((view s).dstate (home_in (view s) k)) 2 kept in
        place_given (and-true (eq-eqb _ 0 granted) (ap not stays)) ∙ field_there s k granted stays ∙ sym (read_gives out);
  }
