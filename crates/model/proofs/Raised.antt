-- What a granted raise leaves in any sound store: one level more, and every unit in service with its bytes. Nothing here rests on a history.
use Prim.Native.Nat.{ℕ, suc, ◌+◌, ◌*◌, ◌-◌, ◌/◌, ◌%◌, ◌<◌}
use mathlib.Core.Path.{◌≡◌, refl, ◌∙◌}
use mathlib.Core.List.{List}
use mathlib.Core.Bool.{Bool, true, false, ◌&&◌}
use native.Mathlib.Omega.{arith}
use lib.Dec.{eqb, ltb}
use lib.ListN.{length, length-set}
use lib.Seq.{get_or-set_same, get_or-set_other}
use borrow.Author.Tests.{eqb-true, ltb-true, ltb-false, le-ltb, not-false}
use Rattle.buffer.specs.Choice.{pick}
use Rattle.buffer.specs.ChoiceLaws.{by-test, by-pick, pick-false}
use Rattle.buffer.specs.TestLaws.{and_second, and_false_second}
use Rattle.group.specs.Widths.{field_bytes, check_bytes}
use Rattle.group.proofs.CheckRecordLaws.{length_check_record}
use Rattle.model.specs.Layout.{Store, view, units_in, level_in}
use Rattle.model.specs.LayoutLaws.{Shaped, Same}
use Rattle.model.specs.Reads.{state_in}
use Rattle.model.specs.Sound.{check_placed, sound}
use Rattle.model.proofs.SoundSays.{fits_absent, check_states}
use Rattle.model.specs.Changes.{added, raised}
use Rattle.model.specs.Numbers.{raise, refusals_in, number_in}
use Rattle.model.specs.Perform.{granted_in}
use Rattle.model.specs.MadeAnew.{left_by}
use Rattle.model.specs.Level.{Raised}
use Rattle.model.specs.history.Runs.{unit_in}
use Rattle.model.proofs.Left.{free, shaped, left_same, unit_kept}

raised_shaped : (v : Store) → Shaped v → Shaped (raised v)
unfolding raised
raised_shaped v h = record {
  front = length-set v.front 7 (suc (level_in v)) ∙ h.front;
  size = get_or-set_other v.front 7 5 (suc (level_in v)) 0 (omega arith) ∙ h.size;
  slot = h.slot;
  check = λ c r l m. by-pick (λ (x : List ℕ). length x ≡ check_bytes) _ _ (v.check c r)
      (λ _. length_check_record field_bytes (c % 3) _ (λ p q. h.slot (4 * (c / 3) + p) r (omega arith) m)) (λ _. h.check c r l m);
}

module _ (s : List ℕ) (zero : number_in s raise ≡ 0) where
  abbrev before : Store
  before = view s

  abbrev next : Store
  next = left_by s raise

  raise_sound : sound s ≡ true
  unfolding refusals_in
  raise_sound = not-false (sound s) (free s raise zero).0

  pub raise_left : Same (left_by s raise) (raised (view s))
  unfolding granted_in
  raise_left = left_same s raise zero (raised before) refl (raised_shaped before (shaped s raise_sound))

  abbrev h : Same (left_by s raise) (raised (view s))
  h = raise_left

  raise_level : level_in next ≡ suc (level_in before)
  unfolding raised level_in
  raise_level = rw h.front (get_or-set_same before.front 7 (suc (level_in before)) 0 (omega (arith, (shaped s raise_sound).front)))

  -- a check unit in service was in place, so it is none of those that are added
  not_added : (c : ℕ) → c < 12 → before.cstate c ≡ 1 → added before c ≡ false
  unfolding added check_placed
  not_added c l e =
      by-test (λ (t : Bool). t ≡ false) (ltb (4 * (c / 3)) (units_in before) && eqb (c % 3) (level_in before))
      (λ q.
      let at : c % 3 ≡ level_in before = eqb-true _ _ (and_second (ltb (4 * (c / 3)) (units_in before)) _ q) in
      let off : before.cstate c ≡ 0 = fits_absent (before.cstate c) (check_states s raise_sound c l)
      (and_false_second (ltb (4 * (c / 3)) (units_in before)) (le-ltb (c % 3) (level_in before) (omega arith))) in
      absurd (omega arith))
      (λ _. refl)

  raise_serves : (w : ℕ) → w < 28 → state_in before w ≡ 1 → state_in next w ≡ 1
  unfolding state_in raised pick
  raise_serves w l =
      by-test (λ (t : Bool). ltb w 16 ≡ t → pick t (before.dstate w) (before.cstate (w - 16)) ≡ 1 → pick t (next.dstate w) (next.cstate (w - 16)) ≡ 1)
      (ltb w 16)
      (λ _ q e. h.dstate w (ltb-true w 16 q) ∙ e)
      (λ _ q e. h.cstate (w - 16) (omega (arith, ltb-false w 16 q))
      ∙ by-pick (λ (n : ℕ). n ≡ 1) (added before (w - 16)) 1 (before.cstate (w - 16)) (λ _. refl) (λ _. e))
      refl

  raise_holds : (w : ℕ) → w < 28 → state_in before w ≡ 1 → unit_in next w ≡ unit_in before w
  unfolding raised
  raise_holds = unit_kept before next h.size (λ u r l m e. h.slot u r l m)
      (λ c r l m e. h.check c r l m ∙ pick-false (not_added c l e) _ (before.check c r))

  pub raise_keeps : Raised s
  raise_keeps = record { level = raise_level; serves = raise_serves; holds = raise_holds }
