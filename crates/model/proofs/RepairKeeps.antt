-- A repair keeps the units in service, puts those out in service, is granted where no data unit of the group is out, and changes nothing where no unit
-- of it is.
use Prim.Native.Nat.{ℕ, ◌+◌, ◌*◌, ◌-◌, ◌/◌, ◌%◌, ◌<◌}
use mathlib.Core.Path.{◌≡◌, refl, sym, ap, ◌∙◌}
use mathlib.Core.List.{List}
use mathlib.Core.Bool.{Bool, true, false, ◌&&◌}
use native.Mathlib.Omega.{arith}
use lib.Dec.{eqb, ltb}
use borrow.Author.Tests.{eqb-true, eq-eqb, ltb-true, ltb-false}
use Rattle.buffer.specs.Choice.{pick}
use Rattle.buffer.specs.ChoiceLaws.{by-test, by-pick, pick_true, pick-false}
use Rattle.buffer.specs.TestLaws.{and-true, and_first, and_second, and_false_second, not-both}
use Rattle.buffer.specs.RangeLaws.{count_zero}
use Rattle.group.specs.Members.{outs}
use Rattle.model.specs.Layout.{Store, view, units_in}
use Rattle.model.specs.LayoutLaws.{Same, bytes_ext, bytes_view}
use Rattle.model.specs.Reads.{state_in, outs_in, whole_slot}
use Rattle.model.proofs.ReadLaws.{whole_own}
use Rattle.model.proofs.LossLaws.{none_beyond}
use Rattle.model.specs.Sound.{sound}
use Rattle.model.proofs.SoundSays.{ranged}
use Rattle.model.specs.Changes.{repaired}
use Rattle.model.specs.Numbers.{repair, first_of, refusals_in, number_in}
use Rattle.model.specs.Perform.{plain, outcome, granted_in, after_in, perform}
use Rattle.model.specs.PerformLaws.{of_repair, granted}
use Rattle.model.specs.MadeAnew.{left_by}
use Rattle.model.specs.RepairKeeps.{RepairKeeps}
use Rattle.model.proofs.Judged.{near_granted}
use Rattle.model.specs.history.Ledger.{group_of}
use Rattle.model.specs.history.Runs.{unit_in}
use Rattle.model.proofs.Left.{repair_left, unit_kept}

module _ (s : List ℕ) (g : ℕ) where
  abbrev v : Store
  v = view s

  abbrev after : Store
  after = left_by s (repair g)

  -- what holds of a store as it was, and as a granted repair leaves it, holds of the store after the call
  by_granted : (P : Store → Type 0) → (number_in s (repair g) ≡ 0 → P after) → P v → P after
  unfolding perform after_in
  by_granted P f p =
      by-test (λ _. P after) (eqb (number_in s (repair g)) 0)
      (λ e. f (eqb-true (number_in s (repair g)) 0 e)) (λ e. rw (pick-false e (granted_in s (repair g)) s) p)

  -- ---- a granted repair

  module _ (zero : number_in s (repair g) ≡ 0) where
    h : Same after (repaired v g)
    h = repair_left s g zero

    state_after : (w : ℕ) → w < 28 → state_in after w ≡ pick (eqb (group_of w) g && eqb (state_in v w) 2) 1 (state_in v w)
    unfolding state_in group_of repaired pick
    state_after w l =
        let c : ℕ = w - 16 in
        by-test (λ t. pick t (after.dstate w) (after.cstate c)
        ≡ pick (eqb (pick t (w / 4) (c / 3)) g && eqb (pick t (v.dstate w) (v.cstate c)) 2) 1 (pick t (v.dstate w) (v.cstate c))) (ltb w 16)
        (λ e. h.dstate w (ltb-true w 16 e)) (λ e. h.cstate c (omega (arith, ltb-false w 16 e)))

    slot_after : (u r : ℕ) → u < 16 → r < v.size → v.dstate u ≡ 1 → after.slot u r ≡ v.slot u r
    unfolding repaired
    slot_after u r l m e =
        h.slot u r l m
        ∙ by-pick (λ x. x ≡ v.slot u r) (eqb (u / 4) g) (whole_slot v u r) (v.slot u r) (λ _. whole_own v u (ap (λ n. eqb n 2) e) r) (λ _. refl)

    check_after : (c r : ℕ) → c < 12 → r < v.size → v.cstate c ≡ 1 → after.check c r ≡ v.check c r
    unfolding repaired
    check_after c r l m e = h.check c r l m ∙ pick-false (and_false_second (eqb (c / 3) g) (ap (λ n. eqb n 2) e)) _ (v.check c r)

    size_after : after.size ≡ v.size
    unfolding repaired
    size_after = h.size

    unit_after : (w : ℕ) → w < 28 → state_in v w ≡ 1 → unit_in after w ≡ unit_in v w
    unit_after = unit_kept v after size_after slot_after check_after

  -- ---- no unit of the group out

  module _ (none : outs_in v g ≡ 0) where
    data_in : (u : ℕ) → eqb (u / 4) g ≡ true → eqb (v.dstate u) 2 ≡ false
    unfolding outs_in outs
    data_in u e =
        let d : 4 * g + u % 4 ≡ u = omega (arith, eqb-true (u / 4) g e) in
        rw d at (count_zero 4 (λ p. eqb (v.dstate (4 * g + p)) 2) (omega arith) (u % 4) (omega arith))

    check_in : (c : ℕ) → eqb (c / 3) g ≡ true → eqb (v.cstate c) 2 ≡ false
    unfolding outs_in outs
    check_in c e =
        let d : 3 * g + c % 3 ≡ c = omega (arith, eqb-true (c / 3) g e) in
        rw d at (count_zero 3 (λ j. eqb (v.cstate (3 * g + j)) 2) (omega arith) (c % 3) (omega arith))

    -- what would be changed only for a unit out
    kept : {A : Type 0} (a b : Bool) (x y : A) → (a ≡ true → b ≡ false) → pick (a && b) x y ≡ y
    kept a b x y f = by-pick (λ z. z ≡ y) (a && b) x y (λ e. not-both (and_second a b e) (f (and_first a b e))) (λ _. refl)

    unchanged : Same (repaired v g) v
    unfolding repaired
    unchanged = record {
      front = refl;
      size = refl;
      dstate = λ u l. kept (eqb (u / 4) g) (eqb (v.dstate u) 2) 1 (v.dstate u) (data_in u);
      cstate = λ c l. kept (eqb (c / 3) g) (eqb (v.cstate c) 2) 1 (v.cstate c) (check_in c);
      slot = λ u r l m. by-pick (λ x. x ≡ v.slot u r) (eqb (u / 4) g) (whole_slot v u r) (v.slot u r) (λ e. whole_own v u (data_in u e) r) (λ _. refl);
      check = λ c r l m. kept (eqb (c / 3) g) (eqb (v.cstate c) 2) _ (v.check c r) (check_in c);
      rest = refl;
    }

    repair_idle : sound s ≡ true → 4 * g < units_in v → perform s (repair g) ≡ outcome (plain 0) s
    unfolding number_in granted_in
    repair_idle ok l =
        let free : first_of (refusals_in (sound s) v (repair g)) ≡ 0 =
        near_granted s g ok l (none_beyond v g (λ p m. data_in (4 * g + p) (eq-eqb _ g (omega arith)))) in
        sym (granted s of_repair {ok = sound s} {r = 0} refl (sym free) refl (sym (bytes_ext (repaired v g) v unchanged ∙ bytes_view s (ranged s ok).long)))

-- WHATEVER THE BYTES
pub repair_keeps : (s : List ℕ) (g : ℕ) → RepairKeeps s g
repair_keeps s g = record {
  serves = λ w l e. by_granted s g (λ t. state_in t w ≡ 1) (λ z. state_after s g z w l ∙ by-pick (λ n. n ≡ 1) _ 1 (state_in (view s) w) (λ _. refl) (λ _. e)) e;
  holds = λ w l e. by_granted s g (λ t. unit_in t w ≡ unit_in (view s) w) (λ z. unit_after s g z w l e) refl;
  restored = λ z w l d e. state_after s g z w l ∙ pick_true (and-true (eq-eqb (group_of w) g d) (eq-eqb (state_in (view s) w) 2 e)) 1 (state_in (view s) w);
  idle = λ ok l none. repair_idle s g none ok l;
}
