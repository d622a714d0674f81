-- 8 exactly where a record or its keys are beyond recovery, in any sound store.
use Prim.Native.Nat.{ℕ, ◌+◌, ◌*◌, ◌/◌, ◌<◌}
use mathlib.Core.Path.{◌≡◌, refl, sym, ap, ◌∙◌}
use mathlib.Core.Logic.{◌≢◌, inl, inr, ⊎_elim}
use mathlib.Core.List.{List}
use mathlib.Core.Bool.{Bool, true, false, not, ◌&&◌, ◌||◌}
use native.Mathlib.Omega.{arith}
use lib.Dec.{eqb, ltb}
use lib.ListN.{length}
use borrow.Author.Tests.{eq-eqb, ne_eqb, eqb-true, eqb-false, ltb-true, lt-ltb, le-ltb, lt-leb, leb-false, not-true}
use Rattle.buffer.specs.Exactly.{Exactly}
use Rattle.buffer.specs.ChoiceLaws.{by-test}
use Rattle.buffer.specs.TestLaws.{and-true, and_first, and_second, or_else, or_other}
use Rattle.buffer.specs.Range.{all, count, first}
use Rattle.buffer.specs.RangeLaws.{all_fails, count_fails, count_zero, count_pos, first_found, first_holds}
use Rattle.group.specs.Widths.{field_bytes}
use Rattle.group.specs.Members.{checks_serving, rebuildable}
use Rattle.model.specs.Layout.{Store, view, units_in}
use Rattle.model.specs.Reads.{home_in, listed_rank, missing_in, rebuildable_in, keys_lost_in, key_beyond_in, beyond_in, lost_in}
use Rattle.model.proofs.LossLaws.{missing_out, missing_listed, out_missing, first_rank}
use Rattle.model.specs.Sound.{sound}
use Rattle.model.proofs.SoundSays.{ranged, units_few}
use Rattle.model.specs.Numbers.{read, list, repair, refusals_in, number_in}
use Rattle.model.specs.RowLaws.{row_holds, row_fails, lacks_first}
use Rattle.model.specs.Judged.{KeysLost, TooManyMissing, KeyBeyond, GroupBeyond}

-- ---- the tests, and what they say

module _ (v : Store) where
  pub lost_keys : (u : ℕ) → keys_lost_in v u ≡ true → KeysLost v u
  unfolding keys_lost_in checks_serving
  lost_keys u e =
      let on : ℕ → Bool = λ j. eqb (v.cstate (3 * (u / 4) + j)) 1 in
      let none : count 3 on ≡ 0 = eqb-true (count 3 on) 0 (and_second (eqb (v.dstate u) 2) _ e) in
      (eqb-true (v.dstate u) 2 (and_first (eqb (v.dstate u) 2) _ e), λ j l. eqb-false _ 1 (count_zero 3 on none j l))

  keys_lost : (u : ℕ) → KeysLost v u → keys_lost_in v u ≡ true
  unfolding keys_lost_in checks_serving
  keys_lost u h = and-true (eq-eqb (v.dstate u) 2 h.0) (eq-eqb _ 0 (count_fails 3 _ (λ j l. ne_eqb _ 1 (h.1 j l))))

  too_many : (g r : ℕ) → rebuildable_in v g r ≡ false → TooManyMissing v g r
  unfolding rebuildable_in rebuildable checks_serving missing_in
  too_many g r e = leb-false _ _ e

  many_missing : (g r : ℕ) → TooManyMissing v g r → rebuildable_in v g r ≡ false
  unfolding rebuildable_in rebuildable checks_serving missing_in
  many_missing g r h = lt-leb _ _ h

  -- a key
  key_beyond : (k : ℕ) → key_beyond_in v k ≡ true → KeyBeyond v k
  unfolding key_beyond_in
  key_beyond k e =
      let u : ℕ = home_in v k in
      let r : ℕ = listed_rank v u k in
      by-test (λ _. KeyBeyond v k) (keys_lost_in v u)
      (λ t. inl (lost_keys u t))
      (λ t.
      let both : (missing_in v u r && not (rebuildable_in v (u / 4) r)) ≡ true = or_other (keys_lost_in v u) _ t e in
      let m : missing_in v u r ≡ true = and_first (missing_in v u r) _ both in
      inr (eqb-true (v.dstate u) 2 (missing_out v u r m), missing_listed v u r m, too_many (u / 4) r (not-true _ (and_second (missing_in v u r) _ both))))

  beyond_key : (k : ℕ) → KeyBeyond v k → key_beyond_in v k ≡ true
  unfolding key_beyond_in
  beyond_key k h =
      let u : ℕ = home_in v k in
      let r : ℕ = listed_rank v u k in
      ⊎_elim
      (λ w. ap (λ (t : Bool). t || missing_in v u r && not (rebuildable_in v (u / 4) r)) (keys_lost u w))
      (λ w. or_else (keys_lost_in v u) _ (λ _. and-true (out_missing v u r (eq-eqb (v.dstate u) 2 w.0) w.1) (ap not (many_missing (u / 4) r w.2))))
      h

  -- a group, with a rank at least
  module _ (some : 0 < v.size) (g : ℕ) where
    abbrev lost : ℕ → Bool
    lost p = keys_lost_in v (4 * g + p)

    group_beyond : beyond_in v g ≡ true → GroupBeyond v g
    unfolding beyond_in
    group_beyond e =
        by-test (λ _. GroupBeyond v g) (ltb 0 (count 4 lost))
        (λ t.
        let low : first 4 lost < 4 = first_found 4 lost (ltb-true 0 (count 4 lost) t) in
        inl (first 4 lost, low, lost_keys (4 * g + first 4 lost) (first_holds 4 lost low)))
        (λ t.
        let fails : all v.size (rebuildable_in v g) ≡ false = not-true _ (or_other (ltb 0 (count 4 lost)) _ t e) in
        inr (0, some, too_many g 0 (sym (first_rank v g some) ∙ fails)))

    beyond_group : GroupBeyond v g → beyond_in v g ≡ true
    unfolding beyond_in
    beyond_group h =
        ⊎_elim
        (λ w. ap (λ (t : Bool). t || not (all v.size (rebuildable_in v g))) (lt-ltb 0 _ (count_pos 4 lost w.0 w.1 (keys_lost (4 * g + w.0) w.2))))
        (λ w. or_else (ltb 0 (count 4 lost)) _ (λ _. ap not (all_fails v.size (rebuildable_in v g) w.0 w.1 (many_missing g w.0 w.2))))
        h

-- ---- the numbers

-- the number is 8 where a test holds, and otherwise another
is_8 : (n : ℕ) (t : Bool) (A : Type 0) → (t ≡ true → n ≡ 8) → (t ≡ false → n ≢ 8) → (t ≡ true → A) → (A → t ≡ true) → Exactly (n ≡ 8) A
is_8 n t A holds fails says said = (λ e. by-test (λ _. A) t says (λ f. absurd (fails f e)), λ a. holds (said a))

module _ (s : List ℕ) (ok : sound s ≡ true) where
  some : 0 < (view s).size
  unfolding view
  some = (ranged s ok).least

  pub read_exactly : (k : ℕ) → k ≢ 0 → (out : List ℕ) → length out ≡ field_bytes → Exactly (number_in s (read k out) ≡ 8) (KeyBeyond (view s) k)
  unfolding number_in refusals_in
  read_exactly k key out fits =
      is_8 _ (key_beyond_in (view s) k) _
      (λ t. row_fails _ _ (ne_eqb k 0 key) ∙ row_fails _ _ (ap not (eq-eqb (length out) field_bytes fits)) ∙ row_fails _ _ (ap not ok) ∙ row_holds _ _ t)
      (λ t. lacks_first 8 (λ q. omega arith) _ (refl, (refl, (refl, (t, (refl, tt))))))
      (key_beyond (view s) k) (beyond_key (view s) k)

  pub repair_exactly : (g : ℕ) → 4 * g < units_in (view s) → Exactly (number_in s (repair g) ≡ 8) (GroupBeyond (view s) g)
  unfolding number_in refusals_in
  repair_exactly g l =
      is_8 _ (beyond_in (view s) g) _
      (λ t. row_fails _ _ (le-ltb 3 g (omega (arith, units_few s ok))) ∙ row_fails _ _ (ap not ok) ∙ row_fails _ _ (lt-leb (units_in (view s)) (4 * g) l)
      ∙ row_holds _ _ t)
      (λ t. lacks_first 8 (λ q. omega arith) _ (refl, (refl, (refl, (t, tt)))))
      (group_beyond (view s) some g) (beyond_group (view s) some g)

  pub list_exactly : (out : List ℕ) → Exactly (number_in s (list out) ≡ 8) ((g : ℕ) × (g < 4) × GroupBeyond (view s) g)
  unfolding number_in refusals_in lost_in
  list_exactly out =
      let beyond : ℕ → Bool = beyond_in (view s) in
      is_8 _ (ltb 0 (count 4 beyond)) _
      (λ t. row_fails _ _ (ap not ok) ∙ row_holds _ _ t)
      (λ t. lacks_first 8 (λ q. omega arith) _ (refl, (t, (refl, tt))))
      (λ t.
      let low : first 4 beyond < 4 = first_found 4 beyond (ltb-true 0 (count 4 beyond) t) in
      (first 4 beyond, low, group_beyond (view s) some (first 4 beyond) (first_holds 4 beyond low)))
      (λ w. lt-ltb 0 _ (count_pos 4 beyond w.0 w.1 (beyond_group (view s) some w.0 w.2)))
