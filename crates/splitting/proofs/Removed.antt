-- The steps that remove a unit leave what shrink is to leave, in a store whose check units out of service are zero.
use Prim.Native.Nat.{ℕ, ◌*◌, ◌/◌, ◌%◌, ◌<◌}
use mathlib.Core.Path.{◌≡◌, refl, sym, ap, ◌∙◌}
use mathlib.Core.List.{List, []}
use mathlib.Core.Bool.{false, ◌&&◌}
use native.Mathlib.Omega.{arith}
use lib.Dec.{eqb, ltb}
use lib.ListN.{length}
use borrow.Author.Tests.{le-ltb, ne_eqb, eqb-false}
use Rattle.buffer.specs.Choice.{pick}
use Rattle.buffer.specs.ChoiceLaws.{by-test, by-pick, pick_true, pick-false, pick-ext}
use Rattle.buffer.specs.Bytes.{zeros}
use Rattle.buffer.specs.ByteLaws.{length_zeros}
use Rattle.group.specs.Widths.{slot_bytes, check_bytes}
use Rattle.model.specs.Units.{split_pointer, touched, begins}
use Rattle.model.specs.Layout.{Store, bytes, view}
use Rattle.model.specs.Places.{data_units}
use Rattle.model.specs.Parts.{with_front, with_dstates, with_cstates, with_slots, with_checks}
use Rattle.model.specs.LayoutLaws.{Shaped, Same, bytes_ext, view_shaped}
use Rattle.model.specs.StoreLaws.{size_of, chunks_shaped}
use Rattle.model.specs.Reads.{fill_in}
use Rattle.model.specs.Changes.{rows, records_in, merged, shrunk, shrunk_state}
use Rattle.encoding.specs.Made.{made_record, made_at, made_in}
use Rattle.encoding.specs.Holding.{Holds, holds_step}
use Rattle.encoding.specs.MadeLaws.{made_in_change}
use Rattle.splitting.specs.Steps.{Split, Blank, marked, levelled, wiped, of_first, of_both}
use Rattle.splitting.proofs.Lists.{behind_holds}
use Rattle.splitting.proofs.StepLaws.{or_first, marked_change, levelled_change, wiped_change}
use Rattle.splitting.proofs.Added.{fill_most}

-- ---- the records merged
merged_long : (v : Store) (m : ℕ) → Shaped v → split_pointer m < 16 → m < 16 → (u r : ℕ) → u < 16 → r < v.size → length (merged v m u r) ≡ slot_bytes
unfolding merged records_in
merged_long v m h hn hm u r a b =
    let n : ℕ = split_pointer m in
    let inside : (w : ℕ) → w < 16 → (k : ℕ) → k < fill_in v w → length (v.slot w k) ≡ slot_bytes = λ w hw k l. h.slot w k hw (omega (arith, fill_most v w)) in
    by-pick (λ (x : List ℕ). length x ≡ slot_bytes) (eqb u m) _ _ (λ _. length_zeros slot_bytes) (λ _.
    by-pick (λ (x : List ℕ). length x ≡ slot_bytes) (eqb u n) _ _
    (λ _.
    behind_holds (λ x. length x ≡ slot_bytes) (rows (fill_in v n) (v.slot n)) (fill_in v m) (v.slot m) (inside m hm) r (zeros slot_bytes)
    (behind_holds (λ x. length x ≡ slot_bytes) [] (fill_in v n) (v.slot n) (inside n hn) r (zeros slot_bytes) (length_zeros slot_bytes)))
    (λ _. h.slot u r a b))

-- ---- all the steps
unfoldable pub removed : Store → ℕ → Store
removed v m = made_in 1 (of_both m) (wiped (of_first m) (levelled (of_first m) 0 (marked (with_slots v (merged v m)) m m 0)))

states_removed : (v : Store) (m c : ℕ) → pick (of_first m c) (pick (ltb (c % 3) 0) 1 0) (v.cstate c) ≡ shrunk_state v m c
unfolding shrunk_state
states_removed v m c = ap (λ x. pick (of_first m c) x (v.cstate c)) (pick-false (le-ltb (c % 3) 0 (omega arith)) 1 0)

-- the records of check unit c, by whether its group is touched
module _ (v : Store) (m c : ℕ) (x y : List ℕ) (blank : (v.cstate c ≡ 1 → ⊥) → y ≡ zeros check_bytes) where
  untouched : touched m (c / 3) ≡ false → pick (of_first m c) (zeros check_bytes) y ≡ y
  unfolding touched begins
  untouched e =
      let other : c / 3 ≡ m / 4 → ⊥ = eqb-false (c / 3) (m / 4) (or_first _ (eqb (c / 3) (split_pointer m / 4)) e) in
      pick-false (ne_eqb (4 * (c / 3)) m (λ f. other (omega arith))) (zeros check_bytes) y

  state_kept : of_first m c ≡ false → shrunk_state v m c ≡ v.cstate c
  unfolding shrunk_state
  state_kept f = pick-false f 0 (v.cstate c)

  out_of_service : eqb (shrunk_state v m c) 1 ≡ false → pick (of_first m c) (zeros check_bytes) y ≡ zeros check_bytes
  out_of_service e =
      by-pick (λ z. z ≡ zeros check_bytes) (of_first m c) (zeros check_bytes) y (λ _. refl)
      (λ f. blank (λ one. eqb-false (shrunk_state v m c) 1 e (state_kept f ∙ one)))

  checks_removed : pick (touched m (c / 3) && eqb (shrunk_state v m c) 1) x (pick (of_first m c) (zeros check_bytes) y)
      ≡ pick (touched m (c / 3)) (pick (eqb (shrunk_state v m c) 1) x (zeros check_bytes)) y
  checks_removed =
      by-test
      (λ t. pick (t && eqb (shrunk_state v m c) 1) x (pick (of_first m c) (zeros check_bytes) y) ≡ pick
      t (pick (eqb (shrunk_state v m c) 1) x (zeros check_bytes)) y)
      (touched m (c / 3))
      (λ _. pick-ext (eqb (shrunk_state v m c) 1) x _ x (zeros check_bytes) (λ _. refl) out_of_service ∙ sym (pick_true refl _ y))
      (λ e. pick-false refl x _ ∙ untouched e ∙ sym (pick-false refl _ y))

pub removed_shrunk : (v : Store) (m : ℕ) → ((c r : ℕ) → c < 12 → r < v.size → (v.cstate c ≡ 1 → ⊥) → v.check c r ≡ zeros check_bytes)
    → Same (removed v m) (shrunk v m)
unfolding removed made_at wiped levelled marked with_slots with_front with_dstates with_cstates with_checks made_record shrunk
removed_shrunk v m blank = record {
  front = refl;
  size = refl;
  dstate = λ u l. refl;
  cstate = λ c l. states_removed v m c;
  slot = λ u r a b. refl;
  check = λ c r a b.
      ap (λ z. pick (touched m (c / 3) && eqb z 1) (made_record (with_slots v (merged v m)) c r) (pick (of_first m c) (zeros check_bytes) (v.check c r)))
      (states_removed v m c)
      ∙ checks_removed v m c (made_record (with_slots v (merged v m)) c r) (v.check c r) (blank c r a b);
  rest = refl;
}

-- the bytes after each step
module _ {s s₁ : List ℕ} {n m : ℕ} (sp : Split s n m) (e₁ : s₁ ≡ bytes (with_slots (view s) (merged (view s) m))) where
  pub merged_holds : Holds s s₁ (with_slots (view s) (merged (view s) m))
  merged_holds =
      let h : Shaped (view s) = view_shaped s sp.sized.long in
      let shaped : Shaped (with_slots (view s) (merged (view s) m)) =
      chunks_shaped data_units (view s) _ h (merged_long (view s) m h (omega (arith, sp.from, sp.apart, sp.unit)) sp.unit) in
      unfold with_slots in record { shaped = shaped; size = refl; rest = refl; state = e₁ }

  module _ {s₂ : List ℕ} (e₂ : s₂ ≡ bytes (marked (view s₁) m m 0)) where
    pub marked_holds : Holds s s₂ (marked (with_slots (view s) (merged (view s) m)) m m 0)
    marked_holds = holds_step (marked_change m m 0) merged_holds e₂

    module _ {s₃ : List ℕ} (e₃ : s₃ ≡ bytes (levelled (of_first m) 0 (view s₂))) where
      pub states_hold : Holds s s₃ (levelled (of_first m) 0 (marked (with_slots (view s) (merged (view s) m)) m m 0))
      states_hold = holds_step (levelled_change (of_first m) 0) marked_holds e₃

      module _ {s₄ : List ℕ} (e₄ : s₄ ≡ bytes (wiped (of_first m) (view s₃))) where
        pub wiped_holds : Holds s s₄ (wiped (of_first m) (levelled (of_first m) 0 (marked (with_slots (view s) (merged (view s) m)) m m 0)))
        wiped_holds = holds_step (wiped_change (of_first m)) states_hold e₄

        pub all_removed : {s₅ : List ℕ} → Blank s → s₅ ≡ bytes (made_in 1 (of_both m) (view s₄)) → s₅ ≡ bytes (shrunk (view s) m)
        all_removed {s₅} blank e₅ =
            (holds_step (made_in_change 1 (of_both m)) wiped_holds e₅).state
            ∙ (unfold removed in bytes_ext _ _ (removed_shrunk (view s) m (λ c r a b h. blank c r a (rw (size_of s) b) (unfold view in h))))
