-- A slot written after another: the second write finds the store that the first has left.
use Prim.Native.Nat.{ℕ, ◌+◌, ◌-◌, ◌≤◌, ◌<◌}
use mathlib.Core.Path.{◌≡◌, sym, ap, ap₂, ◌∙◌}
use mathlib.Core.List.{List}
use native.Mathlib.Omega.{arith}
use lib.ListN.{length, drop, length-drop}
use lib.Seq.{take_all}
use Rattle.buffer.specs.Bytes.{byte, zeros, part}
use Rattle.buffer.specs.SpliceLaws.{part_part}
use Rattle.group.specs.Widths.{key_bytes, field_bytes, slot_bytes}
use Rattle.group.specs.Body.{add_body}
use Rattle.model.specs.Layout.{bytes, view, slot_at}
use Rattle.model.specs.Places.{SlotIn}
use Rattle.model.specs.LayoutLaws.{Shaped, view_shaped}
use Rattle.model.specs.StoreLaws.{size_of, slot_in, slot_lent}
use Rattle.model.specs.Changes.{written, erased}
use Rattle.model.specs.ChangeLaws.{on_bytes, written_shaped, written_size, written_same}

-- the part from o on
part_rest : (o n : ℕ) (x : List ℕ) → length x ≤ o + n → part o n x ≡ drop o x
unfolding part
part_rest o n x h = take_all n (drop o x) (simp length-drop (omega arith))

-- the change of field, from the two parts that are lent
pub slot_change : (s x : List ℕ) (u r b at : ℕ) → SlotIn s u r → length x ≡ slot_bytes → b ≡ byte s 5 → at ≡ slot_at b u r
    → add_body (part (at + key_bytes) (at + slot_bytes - (at + key_bytes)) s) (part key_bytes field_bytes x) ≡ add_body
    (drop key_bytes ((view s).slot u r)) (drop key_bytes x)
slot_change s x u r b at p hx eb ea =
    let width : at + slot_bytes - (at + key_bytes) ≡ field_bytes = omega arith in
    let long : length ((view s).slot u r) ≡ slot_bytes = (view_shaped s p.long).slot u r p.unit (rw (← size_of s) p.rank) in
    ap₂
    add_body
    (ap (λ n. part (at + key_bytes) n s) width
    ∙ sym (part_part at slot_bytes key_bytes field_bytes s (omega arith))
    ∙ ap (part key_bytes field_bytes) (slot_lent s b at u r eb ea)
    ∙ part_rest key_bytes field_bytes ((view s).slot u r) (omega arith))
    (part_rest key_bytes field_bytes x (omega arith))

module _ (s₀ s x : List ℕ) (u r : ℕ) (p : SlotIn s₀ u r) (hx : length x ≡ slot_bytes) (e : s ≡ bytes (written (view s₀) u r x)) where
  rank : r < (view s₀).size
  rank = rw (← size_of s₀) p.rank

  shaped : Shaped (written (view s₀) u r x)
  shaped = written_shaped (view s₀) u r x (view_shaped s₀ p.long) p.unit rank hx

  pub written_in : (q : ℕ) → SlotIn s₀ u q → SlotIn s u q
  written_in q k = slot_in (written (view s₀) u r x) shaped s e u q k.unit (rw (written_size (view s₀) u r x, ← size_of s₀) k.rank)

  pub written_again : (q : ℕ) (y : List ℕ) → SlotIn s₀ u q → bytes (written (view s) u q y) ≡ bytes (written (written (view s₀) u r x) u q y)
  written_again q y k =
      on_bytes (λ t. written t u q y) (written (view s₀) u r x) s shaped e (λ h.
      written_same (view (bytes (written (view s₀) u r x))) u q y (written (view s₀) u r x) h k.unit
      (rw (written_size (view s₀) u r x, ← size_of s₀) k.rank))

-- the two writes of an erase
pub erased_bytes : (s₀ s s' x : List ℕ) (u r q : ℕ) → SlotIn s₀ u r → SlotIn s₀ u q → length x ≡ slot_bytes → x ≡ (view s₀).slot u q
    → s ≡ bytes (written (view s₀) u r x) → s' ≡ bytes (written (view s) u q (zeros slot_bytes)) → s' ≡ bytes (erased (view s₀) u r q)
unfolding erased
erased_bytes s₀ s s' x u r q p k hx ex e f =
    f ∙ written_again s₀ s x u r p hx e q (zeros slot_bytes) k ∙ ap (λ z. bytes (written (written (view s₀) u r z) u q (zeros slot_bytes))) ex
