-- The slots of a rank of a group, as code lends their parts, and the parity of their fields.
use Prim.Native.Nat.{ℕ, suc, ◌+◌, ◌*◌, ◌-◌, ◌≤◌, ◌<◌}
use mathlib.Core.Path.{◌≡◌, refl, sym, ap, ◌∙◌}
use mathlib.Core.List.{List}
use native.Mathlib.Omega.{arith}
use native.Mathlib.Nat.{mul-le-mul_right}
use lib.Bits.{bit_xor, xor_lt}
use lib.ListN.{length, take, drop}
use lib.Seq.{take-take}
use Rattle.buffer.specs.RangeLaws.{below-four}
use Rattle.buffer.specs.Bytes.{byte, part}
use Rattle.buffer.specs.TableLaws.{Wide}
use Rattle.group.specs.Widths.{key_bytes, field_bytes, slot_bytes}
use Rattle.group.specs.Parity.{parity}
use Rattle.group.proofs.ParityLaws.{parity_ext}
use Rattle.group.proofs.CheckRecordLaws.{length_key}
use Rattle.group.specs.Four.{four_bodies}
use Rattle.lookup.specs.SlotLaws.{drop_part}
use Rattle.model.specs.Layout.{view, slot_at}
use Rattle.model.specs.LayoutLaws.{view_shaped}
use Rattle.model.specs.StoreLaws.{size_of, slot_lent}
use Rattle.encoding.specs.Ranks.{RankIn}

-- the field of a slot
pub slot_field : (s : List ℕ) (u r at : ℕ) → at ≡ slot_at (byte s 5) u r → part (at + key_bytes) field_bytes s ≡ drop key_bytes ((view s).slot u r)
slot_field s u r at ea = sym (drop_part at key_bytes field_bytes s) ∙ ap (drop key_bytes) (slot_lent s (byte s 5) at u r refl ea)

-- its key and its field, as both are lent
pub slot_parts : (s : List ℕ) (u r at : ℕ) → at ≡ slot_at (byte s 5) u r
    → (part at (at + 4 - at) s ≡ take key_bytes ((view s).slot u r)) × (part (at + 4) (at + slot_bytes - (at + 4)) s ≡ drop key_bytes ((view s).slot u r))
slot_parts s u r at ea =
    let key : at + 4 - at ≡ key_bytes = omega arith in
    let field : at + slot_bytes - (at + 4) ≡ field_bytes = omega arith in
    let slot : part at slot_bytes s ≡ (view s).slot u r = slot_lent s (byte s 5) at u r refl ea in (
      rw (key, ← slot) (unfold part in sym (take-take key_bytes slot_bytes (drop at s) (omega arith))),
      rw field (slot_field s u r at ea),
    )

-- an exchanged place is one of the four
pub exchanged_low : (j p : ℕ) → j < 3 → p < 4 → bit_xor p j < 4
exchanged_low j p hj hp = xor_lt 2 p j hp (omega arith)

module _ {s : List ℕ} {g r : ℕ} (h : RankIn s g r) where
  -- its slots, exchanged for check place j, stand before the check units
  pub exchanged_before : (j p : ℕ) → j < 3 → p < 4 → slot_at (byte s 5) (4 * g + bit_xor p j) r + slot_bytes ≤ slot_at (byte s 5) 16 0
  exchanged_before j p hj hp =
      let u : ℕ = 4 * g + bit_xor p j in
      let low : u < 16 = omega (arith, h.group, exchanged_low j p hj hp) in
      omega (arith, h.rank, mul-le-mul_right {m = suc u} {n = 16} (byte s 5) low)

  slot_long : (p : ℕ) → p < 4 → length ((view s).slot (4 * g + p) r) ≡ slot_bytes
  slot_long p l = (view_shaped s h.long).slot (4 * g + p) r (omega (arith, h.group)) (rw (← size_of s) h.rank)

  pub key_wide : Wide 4 key_bytes (λ p. take key_bytes ((view s).slot (4 * g + p) r))
  key_wide p l = length_key field_bytes ((view s).slot (4 * g + p) r) (slot_long p l)

-- four fields that stand apart are those of f
pub parity_four : (j : ℕ) (f : ℕ → List ℕ) {a b c d : List ℕ} → a ≡ f 0 → b ≡ f 1 → c ≡ f 2 → d ≡ f 3 → parity j (four_bodies a b c d) ≡ parity j f
unfolding four_bodies
parity_four j f {a} {b} {c} {d} ea eb ec ed = parity_ext j (four_bodies a b c d) f (below-four (λ p. four_bodies a b c d p ≡ f p) ea eb ec ed)
