-- Losses are judged by the records that are missing, in any bytes: a group that has lost no more units than the level says, or no data unit, is
-- repaired, and a key that is not listed is not taught.
use Prim.Native.Nat.{ℕ, zero, suc, ◌+◌, ◌*◌, ◌/◌, ◌%◌, ◌≤◌, ◌<◌}
use mathlib.Core.Path.{◌≡◌, refl, ap}
use mathlib.Core.Logic.{◌≢◌}
use mathlib.Core.List.{List}
use mathlib.Core.Bool.{Bool, true, false, not}
use native.Mathlib.Omega.{arith}
use lib.Dec.{eqb, ltb}
use lib.ListN.{length}
use borrow.Author.Tests.{eq-eqb, ne_eqb, eqb-true, eqb-false, ltb-true, le-ltb, lt-leb, le-leb}
use Rattle.buffer.specs.Choice.{pick}
use Rattle.buffer.specs.ChoiceLaws.{by-test}
use Rattle.buffer.specs.TestLaws.{and_false_first, and_false_second}
use Rattle.buffer.specs.Range.{count, first}
use Rattle.buffer.specs.RangeLaws.{all_holds, count_mono, count_fails, count_parts, count_pos, none_counted, first_found, first_holds}
use Rattle.group.specs.Widths.{field_bytes}
use Rattle.group.specs.Members.{outs, checks_serving, rebuildable}
use Rattle.model.specs.UnitLaws.{unit_below}
use Rattle.model.specs.Layout.{Store, view, units_in, level_in}
use Rattle.model.specs.Reads.{home_in, outs_in, checks_in, listed_fill, listed_rank, missing_in, rebuildable_in, keys_lost_in, key_beyond_in, beyond_in, lost_in}
use Rattle.model.proofs.LossLaws.{missing_out, none_in_service, none_past, kept_keys, none_beyond}
use Rattle.model.specs.Sound.{sound}
use Rattle.model.proofs.SoundSays.{units_some, units_few, states_low, data_states, by-fitting}
use Rattle.model.specs.Numbers.{read, list, repair, first_of, refusals_in, number_in}
use Rattle.model.specs.RowLaws.{free_first, lacks_first}
use Rattle.model.specs.Judged.{WithinLevel, LossesJudged}
use Rattle.model.proofs.Level.{level_everywhere}
use Rattle.model.proofs.Exactly8.{lost_keys, read_exactly, repair_exactly, list_exactly}

-- a group in place that is not beyond recovery is repaired
pub near_granted : (s : List ℕ) (g : ℕ) → sound s ≡ true → 4 * g < units_in (view s) → beyond_in (view s) g ≡ false → number_in s (repair g) ≡ 0
unfolding number_in refusals_in
near_granted s g ok l near =
    free_first (refusals_in (sound s) (view s) (repair g))
    (le-ltb 3 g (omega (arith, units_few s ok)), (ap not ok, (lt-leb (units_in (view s)) (4 * g) l, (near, tt))))

-- a check unit in place is in service or out
in_place : (x : ℕ) → x ≤ 2 → pick (eqb x 1) 1 0 + pick (eqb x 2) 1 0 ≡ pick (ltb 0 x) 1 0
unfolding pick
in_place zero h = refl
in_place (suc zero) h = refl
in_place (suc (suc zero)) h = refl
in_place (suc (suc (suc x))) h = absurd (omega arith)

-- ---- a group in place of a sound store with no more units out than the level says
module _ (s : List ℕ) (ok : sound s ≡ true) (g : ℕ) (l : 4 * g < units_in (view s)) (few : outs_in (view s) g ≤ level_in (view s)) where
  abbrev v : Store
  v = view s

  abbrev out : ℕ → Bool
  out p = eqb (v.dstate (4 * g + p)) 2

  serving : ℕ
  serving = checks_serving (λ j. v.cstate (3 * g + j))

  -- no more data units out than check units in service
  data_few : count 4 out ≤ serving
  unfolding serving checks_serving outs_in outs checks_in
  data_few =
      let c : ℕ → ℕ = λ j. v.cstate (3 * g + j) in
      let level : count 3 (λ j. ltb 0 (c j)) ≡ level_in v = level_everywhere.in_sound_stores s ok g l in
      let parts : count 3 (λ j. eqb (c j) 1) + count 3 (λ j. eqb (c j) 2) ≡ count 3 (λ j. ltb 0 (c j)) =
      count_parts 3 _ _ _ (λ j m. in_place (c j) (states_low s ok (3 * g + j) (omega (arith, units_few s ok)))) in
      omega (arith, few, level, parts)

  rank_near : (r : ℕ) → rebuildable_in v g r ≡ true
  unfolding rebuildable_in rebuildable serving
  rank_near r =
      le-leb (count 4 (λ p. missing_in v (4 * g + p) r)) serving
      (omega (arith, data_few, count_mono 4 (λ p. missing_in v (4 * g + p) r) out (λ p _. missing_out v (4 * g + p) r)))

  keys_near : (p : ℕ) → p < 4 → keys_lost_in v (4 * g + p) ≡ false
  unfolding keys_lost_in serving
  keys_near p m =
      by-test (λ _. keys_lost_in v (4 * g + p) ≡ false) (out p)
      (λ e.
      let d : (4 * g + p) / 4 ≡ g = omega arith in
      let some : 0 < count 4 out = count_pos 4 out p m e in
      and_false_second (out p) (rw d (ne_eqb serving 0 (λ z. omega (arith, z, some, data_few)))))
      (λ e. and_false_first e _)

  group_near : beyond_in v g ≡ false
  unfolding beyond_in
  group_near = rw (count_fails 4 (λ p. keys_lost_in v (4 * g + p)) keys_near, all_holds v.size (rebuildable_in v g) (λ r _. rank_near r))

-- ---- a read
module _ (s : List ℕ) (ok : sound s ≡ true) (k : ℕ) where
  abbrev u : ℕ
  u = home_in (view s) k

  key_near : WithinLevel s (home_in (view s) k) → key_beyond_in (view s) k ≡ false
  unfolding key_beyond_in
  key_near few =
      let r : ℕ = listed_rank (view s) u k in
      by-test (λ _. key_beyond_in (view s) k ≡ false) (eqb ((view s).dstate u) 2)
      (λ out.
      let low : u < units_in (view s) = unfold home_in in unit_below (units_in (view s)) k (units_some s ok) in
      let d : 4 * (u / 4) + u % 4 ≡ u = omega arith in
      let level : outs_in (view s) (u / 4) ≤ level_in (view s) = few (eqb-true ((view s).dstate u) 2 out) in
      let kept : keys_lost_in (view s) u ≡ false = rw d at (keys_near s ok (u / 4) (omega arith) level (u % 4) (omega arith)) in
      rw (kept, rank_near s ok (u / 4) (omega arith) level r) (and_false_second (missing_in (view s) u r) refl))
      (λ on. rw (kept_keys (view s) u on, none_in_service (view s) u r (eqb-false ((view s).dstate u) 2 on)))

  read_near : (x : List ℕ) → key_beyond_in (view s) k ≡ false → number_in s (read k x) ≢ 8
  unfolding number_in refusals_in
  read_near x e = lacks_first 8 (λ q. omega arith) _ (refl, (refl, (refl, (e, (refl, tt)))))

  module _ (key : k ≢ 0) (x : List ℕ) (fits : length x ≡ field_bytes) where
    read_none : keys_lost_in (view s) u ≡ false → listed_fill (view s) u ≤ listed_rank (view s) u k → number_in s (read k x) ≡ 6
    unfolding number_in refusals_in key_beyond_in first_of pick
    read_none e l =
        rw (ne_eqb k 0 key, eq-eqb (length x) field_bytes fits, ok, e, none_past (view s) u (listed_rank (view s) u k) l)
        (rw (le-leb (listed_fill (view s) u) (listed_rank (view s) u k) l))

-- ---- a list
module _ (s : List ℕ) (ok : sound s ≡ true) (few : (u : ℕ) → u < 16 → WithinLevel s u) where
  -- a group with a data unit out is in place
  out_placed : (u : ℕ) → u < 16 → (view s).dstate u ≡ 2 → u < units_in (view s)
  out_placed u l e =
      ltb-true u (units_in (view s)) (by-fitting (λ p n. n ≡ 2 → p ≡ true) _ ((view s).dstate u) (data_states s ok u l) (λ _. refl) (λ _. refl)
      (λ q. absurd (omega arith)) e)

  groups_near : (g : ℕ) → g < 4 → beyond_in (view s) g ≡ false
  groups_near g l =
      let out : ℕ → Bool = λ p. eqb ((view s).dstate (4 * g + p)) 2 in
      by-test (λ _. beyond_in (view s) g ≡ false) (ltb 0 (count 4 out))
      (λ e.
      let p : ℕ = first 4 out in
      let low : p < 4 = first_found 4 out (ltb-true 0 (count 4 out) e) in
      let lost : (view s).dstate (4 * g + p) ≡ 2 = eqb-true _ 2 (first_holds 4 out low) in
      let d : (4 * g + p) / 4 ≡ g = omega arith in
      group_near s ok g (omega (arith, out_placed (4 * g + p) (omega arith) lost)) (rw d at (few (4 * g + p) (omega arith) lost)))
      (λ e. none_beyond (view s) g (none_counted 4 out e))

  list_near : (x : List ℕ) → number_in s (list x) ≢ 8
  unfolding number_in refusals_in lost_in
  list_near x = lacks_first 8 (λ q. omega arith) _ (refl, (rw (count_fails 4 (beyond_in (view s)) groups_near), (refl, tt)))

-- WHATEVER THE BYTES
pub losses_judged : (s : List ℕ) → LossesJudged s
losses_judged s = record {
  read_exactly = read_exactly s;
  repair_exactly = repair_exactly s;
  list_exactly = list_exactly s;
  within_level = λ ok g l few. near_granted s g ok l (group_near s ok g l few);
  read_within_level = λ ok k x few. read_near s ok k x (key_near s ok k few);
  list_within_level = λ ok x few. list_near s ok few x;
  checks_alone = λ ok g l none. near_granted s g ok l (none_beyond (view s) g (λ p m. ne_eqb ((view s).dstate (4 * g + p)) 2 (none p m)));
  not_listed = λ ok k key x fits kept. read_none s ok k key x fits (by-test (λ t. t ≡ false) _ (λ e. absurd (kept (lost_keys (view s) _ e))) (λ _. refl));
}
