-- The three steps of a repair, one after the other, leave the repaired store.
use Prim.Native.Nat.{ℕ, ◌+◌, ◌*◌, ◌/◌, ◌%◌, ◌<◌}
use mathlib.Core.Path.{◌≡◌, ap, ◌∙◌}
use mathlib.Core.Bool.{Bool, ◌&&◌}
use mathlib.Core.List.{List}
use native.Mathlib.Omega.{arith}
use lib.Dec.{eqb}
use borrow.Author.Tests.{eq-eqb, eqb-true}
use Rattle.buffer.specs.Choice.{pick}
use Rattle.buffer.specs.ChoiceLaws.{pick_true, pick-ext}
use Rattle.buffer.specs.TestLaws.{and_first}
use Rattle.group.specs.CheckRecord.{check_record}
use Rattle.group.proofs.CheckRecordLaws.{check_record_ext}
use Rattle.model.specs.Layout.{Store, bytes, view}
use Rattle.model.specs.Parts.{with_slots, with_checks}
use Rattle.model.specs.LayoutLaws.{Shaped, Same, bytes_ext, view_shaped, view_bytes}
use Rattle.model.specs.StoreLaws.{long_at}
use Rattle.model.specs.Reads.{whole_slot}
use Rattle.model.specs.Changes.{repaired}
use Rattle.encoding.specs.Made.{made_record, made_at, made_in, in_group}
use Rattle.encoding.specs.MadeLaws.{made_in_change}
use Rattle.repairing.specs.Groups.{Group, Repairable}
use Rattle.repairing.specs.Steps.{units_rebuilt, units_serving}
use Rattle.repairing.proofs.Restoring.{restored_shaped}

-- ---- a step that is done
module _ (t : Store) (shaped : Shaped t) {s : List ℕ} (e : s ≡ bytes t) where
  step_group : (g : ℕ) → g < 4 → Group s g
  step_group g l = record { long = long_at t shaped s e; group = l }

  step_seen : Same (view s) t
  step_seen = rw e (view_bytes t shaped)

module _ {s₀ s₁ : List ℕ} {g : ℕ} (h : Repairable s₀ g) (e₁ : s₁ ≡ bytes (units_rebuilt (view s₀) g)) where
  abbrev v : Store
  v = view s₀

  pub group_rebuilt : Group s₁ g
  group_rebuilt = step_group (units_rebuilt v g) (restored_shaped h) e₁ g h.group

  seen₁ : Same (view s₁) (units_rebuilt v g)
  seen₁ = step_seen (units_rebuilt v g) (restored_shaped h) e₁

  -- the data are whole
  whole₁ : (u r : ℕ) → u < 16 → r < v.size → (view s₁).slot u r ≡ pick (eqb (u / 4) g) (whole_slot v u r) (v.slot u r)
  unfolding units_rebuilt with_slots
  whole₁ u r a b = seen₁.slot u r a b

  slots₁ : (r p : ℕ) → r < v.size → p < 4 → (view s₁).slot (4 * g + p) r ≡ whole_slot v (4 * g + p) r
  slots₁ r p b l =
      let k = h.group in
      whole₁ (4 * g + p) r (omega arith) b ∙ pick_true (eq-eqb ((4 * g + p) / 4) g (omega arith)) (whole_slot v (4 * g + p) r) (v.slot (4 * g + p) r)

  record₁ : (c r : ℕ) → r < v.size → c / 3 ≡ g → made_record (view s₁) c r ≡ check_record (c % 3) (λ p. whole_slot v (4 * g + p) r)
  unfolding made_record
  record₁ c r b e = check_record_ext (c % 3) _ _ (λ p l. ap (λ k. (view s₁).slot (4 * k + p) r) e ∙ slots₁ r p b l)

  module _ {s₂ : List ℕ} (e₂ : s₂ ≡ bytes (made_in 2 (in_group g) (view s₁))) where
    shaped₂ : Shaped (made_in 2 (in_group g) (view s₁))
    shaped₂ = (made_in_change 2 (in_group g)).shaped (view s₁) (view_shaped s₁ group_rebuilt.long)

    pub group_made : Group s₂ g
    group_made = step_group (made_in 2 (in_group g) (view s₁)) shaped₂ e₂ g h.group

    seen₂ : Same (view s₂) (made_in 2 (in_group g) (view s₁))
    seen₂ = step_seen (made_in 2 (in_group g) (view s₁)) shaped₂ e₂

    -- the check units that were out are made from them
    check₂ : (c r : ℕ) → c < 12 → r < v.size
        → (view s₂).check c r ≡ pick (eqb (c / 3) g && eqb (v.cstate c) 2) (check_record (c % 3) (λ p. whole_slot v (4 * g + p) r)) (v.check c r)
    unfolding made_at units_rebuilt with_checks with_slots
    check₂ c r a b =
        let size : (view s₁).size ≡ v.size = seen₁.size in
        let due : Bool = eqb (c / 3) g && eqb ((view s₁).cstate c) 2 in
        seen₂.check c r a (rw size b)
        ∙ pick-ext due _ _ (check_record (c % 3) (λ p. whole_slot v (4 * g + p) r)) (v.check c r)
        (λ t. record₁ c r b (eqb-true (c / 3) g (and_first (eqb (c / 3) g) _ t))) (λ _. seen₁.check c r a b)
        ∙ ap (λ x. pick (eqb (c / 3) g && eqb x 2) (check_record (c % 3) (λ p. whole_slot v (4 * g + p) r)) (v.check c r)) (seen₁.cstate c a)

    -- THE STEPS TOGETHER
    pub group_repaired : {s₃ : List ℕ} → s₃ ≡ bytes (units_serving (view s₂) g) → s₃ ≡ bytes (repaired (view s₀) g)
    unfolding units_serving made_at units_rebuilt with_checks with_slots repaired
    group_repaired e =
        let size : (view s₁).size ≡ v.size = seen₁.size in
        e
        ∙ bytes_ext _ _ (record {
          front = seen₂.front ∙ seen₁.front;
          size = seen₂.size ∙ size;
          dstate = λ u a. ap (λ x. pick (eqb (u / 4) g && eqb x 2) 1 x) (seen₂.dstate u a ∙ seen₁.dstate u a);
          cstate = λ c a. ap (λ x. pick (eqb (c / 3) g && eqb x 2) 1 x) (seen₂.cstate c a ∙ seen₁.cstate c a);
          slot = λ u r a b. seen₂.slot u r a (rw size b) ∙ whole₁ u r a b;
          check = λ c r a b. check₂ c r a b;
          rest = seen₂.rest ∙ seen₁.rest;
        })
