-- The steps that add a unit leave what grow is to leave.
use Prim.Native.Nat.{ℕ, ◌+◌, ◌≤◌, ◌<◌}
use mathlib.Core.Path.{◌≡◌, refl, ap, ◌∙◌}
use mathlib.Core.List.{List}
use mathlib.Core.Bool.{Bool, not}
use native.Mathlib.Omega.{arith}
use native.Mathlib.Numerals.{add-one}
use lib.Dec.{eqb}
use lib.ListN.{length, get_or, set}
use Rattle.buffer.specs.ChoiceLaws.{by-pick}
use Rattle.buffer.specs.RangeLaws.{first_le}
use Rattle.buffer.specs.Bytes.{zeros}
use Rattle.buffer.specs.ByteLaws.{length_zeros}
use Rattle.group.specs.Widths.{slot_bytes}
use Rattle.model.specs.Units.{split_pointer, moves}
use Rattle.model.specs.Layout.{Store, bytes, view, level_in, key_of}
use Rattle.model.specs.Places.{data_units}
use Rattle.model.specs.Parts.{with_front, with_dstates, with_cstates, with_slots, with_checks}
use Rattle.model.specs.LayoutLaws.{Shaped, Same, bytes_ext, view_shaped}
use Rattle.model.specs.StoreLaws.{chunks_shaped}
use Rattle.model.specs.Reads.{fill_in}
use Rattle.model.specs.Changes.{filter_by, rows, records_in, dealt, grown, grown_state}
use Rattle.encoding.specs.Made.{made_record, made_at, made_in}
use Rattle.encoding.specs.Holding.{Holds, holds_step}
use Rattle.encoding.specs.MadeLaws.{made_in_change}
use Rattle.splitting.specs.Steps.{Split, marked, levelled, of_first, of_both}
use Rattle.splitting.proofs.Lists.{kept_holds}
use Rattle.splitting.proofs.StepLaws.{marked_change, levelled_change}

-- a unit has no more records than ranks
pub fill_most : (v : Store) (u : ℕ) → fill_in v u ≤ v.size
unfolding fill_in
fill_most v u = first_le v.size (λ r. eqb (key_of (v.slot u r)) 0)

-- ---- the records dealt out
dealt_long : (v : Store) (m : ℕ) → Shaped v → split_pointer m < 16 → (u r : ℕ) → u < 16 → r < v.size → length (dealt v m u r) ≡ slot_bytes
unfolding dealt records_in
dealt_long v m h hn u r a b =
    let n : ℕ = split_pointer m in
    let each : (p : List ℕ → Bool) → length (get_or (filter_by p (rows (fill_in v n) (v.slot n))) r (zeros slot_bytes)) ≡ slot_bytes =
    λ p. kept_holds (λ x. length x ≡ slot_bytes) p (fill_in v n) (v.slot n) (λ k l. h.slot n k hn (omega (arith, fill_most v n)))
    r (zeros slot_bytes) (length_zeros slot_bytes) in
    by-pick (λ (x : List ℕ). length x ≡ slot_bytes) (eqb u m) _ _ (λ _. each (λ x. moves m (key_of x))) (λ _.
    by-pick (λ (x : List ℕ). length x ≡ slot_bytes) (eqb u n) _ _ (λ _. each (λ x. not (moves m (key_of x)))) (λ _. h.slot u r a b))

-- ---- all the steps
unfoldable pub added : Store → ℕ → ℕ → Store
added v m k = made_in 1 (of_both m) (levelled (of_first m) k (marked (with_slots v (dealt v m)) (m + 1) m 1))

pub added_grown : (v : Store) (m k : ℕ) → k ≡ level_in v → Same (added v m k) (grown v m)
unfolding added made_at levelled marked with_slots with_front with_dstates with_cstates with_checks made_record grown grown_state
added_grown v m k ek = record {
  front = ap (set v.front 6) (add-one m);
  size = refl;
  dstate = λ u l. refl;
  cstate = λ c l. rw ek;
  slot = λ u r a b. refl;
  check = λ c r a b. rw ek;
  rest = refl;
}

-- the bytes after each step
module _ {s s₁ : List ℕ} {n m : ℕ} (sp : Split s n m) (e₁ : s₁ ≡ bytes (with_slots (view s) (dealt (view s) m))) where
  pub dealt_holds : Holds s s₁ (with_slots (view s) (dealt (view s) m))
  dealt_holds =
      let h : Shaped (view s) = view_shaped s sp.sized.long in
      let shaped : Shaped (with_slots (view s) (dealt (view s) m)) =
      chunks_shaped data_units (view s) _ h (dealt_long (view s) m h (omega (arith, sp.from, sp.apart, sp.unit))) in
      unfold with_slots in record { shaped = shaped; size = refl; rest = refl; state = e₁ }

  module _ {s₂ : List ℕ} (e₂ : s₂ ≡ bytes (marked (view s₁) (m + 1) m 1)) where
    pub marked_holds : Holds s s₂ (marked (with_slots (view s) (dealt (view s) m)) (m + 1) m 1)
    marked_holds = holds_step (marked_change (m + 1) m 1) dealt_holds e₂

    module _ (k : ℕ) {s₃ : List ℕ} (e₃ : s₃ ≡ bytes (levelled (of_first m) k (view s₂))) where
      pub new_holds : Holds s s₃ (levelled (of_first m) k (marked (with_slots (view s) (dealt (view s) m)) (m + 1) m 1))
      new_holds = holds_step (levelled_change (of_first m) k) marked_holds e₃

      pub all_added : {s₄ : List ℕ} → k ≡ level_in (view s) → s₄ ≡ bytes (made_in 1 (of_both m) (view s₃)) → s₄ ≡ bytes (grown (view s) m)
      all_added {s₄} ek e₄ =
          (holds_step (made_in_change 1 (of_both m)) new_holds e₄).state ∙ (unfold added in bytes_ext _ _ (added_grown (view s) m k ek))
