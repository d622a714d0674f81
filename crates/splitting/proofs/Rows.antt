-- What grow, shrink and raise may rely on where their rows give 0, and what a sound store gives them.
use Prim.Native.Nat.{ℕ, suc, pred, ◌+◌, ◌-◌, ◌/◌, ◌≤◌, ◌<◌}
use mathlib.Core.Path.{◌≡◌, refl, sym, ap, ◌∙◌}
use mathlib.Core.Bool.{Bool, true, false, not, ◌||◌}
use mathlib.Core.List.{List, [], ◌∷◌}
use native.Mathlib.Omega.{arith}
use lib.Dec.{eqb, ltb, leb}
use lib.ListN.{get_or}
use borrow.Author.Tests.{not-false, leb-false, ne_eqb}
use Rattle.buffer.specs.Choice.{pick}
use Rattle.buffer.specs.TestLaws.{or_other}
use Rattle.buffer.specs.Range.{sum}
use Rattle.buffer.specs.RangeLaws.{sum_ext}
use Rattle.buffer.specs.Bytes.{byte, zeros}
use Rattle.group.specs.Widths.{check_bytes}
use Rattle.model.specs.Units.{split_pointer}
use Rattle.model.specs.UnitLaws.{split_below}
use Rattle.model.specs.Layout.{view, units_in}
use Rattle.model.specs.Places.{Long}
use Rattle.model.specs.StoreLaws.{size_of, units_of, level_of}
use Rattle.model.specs.Reads.{fill_in, outs_in, units_out_in}
use Rattle.model.proofs.ReadLaws.{units_out_groups}
use Rattle.model.specs.Sound.{sound}
use Rattle.model.specs.SoundLaws.{same_true}
use Rattle.model.specs.Numbers.{Call, first_of, refusals_in}
use Rattle.model.specs.RowLaws.{row_pair}
use Rattle.model.specs.PerformLaws.{none_holds}
use Rattle.model.proofs.SoundSays.{zeroed_says, clauses}
use Rattle.soundness.specs.Survey.{Surveyed}
use Rattle.soundness.specs.SurveyLaws.{found_sized, outs_read, own_fill_read}
use Rattle.lookup.specs.Sized.{Sized}
use Rattle.lookup.specs.SizedLaws.{sound_sized}
use Rattle.splitting.specs.Steps.{Split, Merges, Blank, pair_out, pair_crowded}
use Rattle.splitting.proofs.StepLaws.{or_first, or_second}

-- ---- the last unit's number, as the code computes it
pub pred_of : (n : ℕ) → n - 1 ≡ pred n
pred_of ℕ.zero = refl
pred_of (suc n) = omega arith

-- ---- both groups, read at the indices i and j
pub pair_read : (outs : List ℕ) (m : ℕ) {n i j : ℕ} → n ≡ split_pointer m → i ≡ m / 4 → j ≡ n / 4
    → (ltb 0 (get_or outs i 0) || ltb 0 (get_or outs j 0)) ≡ pair_out (λ g. get_or outs g 0) m
unfolding pair_out
pair_read outs m en ei ej = rw (ei, ej, en)

-- ---- the rows, as the code reads them: m is the number of units
abbrev pub grow_rows : List ℕ → Bool → ℕ → List (Bool × ℕ)
grow_rows s ok m = (not ok, 1) ∷ (leb 16 m, 9) ∷ (pair_out (outs_in (view s)) m, 4) ∷ []

abbrev pub shrink_rows : List ℕ → Bool → ℕ → List (Bool × ℕ)
shrink_rows s ok m =
    (not ok, 1) ∷ (leb m 1, 9) ∷ (pair_out (outs_in (view s)) (m - 1), 4) ∷ (pair_crowded (view s).size (fill_in (view s)) (m - 1), 7) ∷ []

module _ (s : List ℕ) (ok : Bool) {m : ℕ} (e : m ≡ byte s 6) where
  units : m ≡ units_in (view s)
  units = e ∙ units_of s

  pub grow_rows_lem : first_of (refusals_in ok (view s) Call.grow) ≡ first_of (grow_rows s ok m)
  unfolding first_of refusals_in pair_out
  grow_rows_lem = rw (← units) (ap (λ n. pick (not ok) 1 (pick (leb 16 m) 9 n)) (row_pair _ _ 4 []))

  pub shrink_rows_lem : first_of (refusals_in ok (view s) Call.shrink) ≡ first_of (shrink_rows s ok m)
  unfolding first_of refusals_in pair_out pair_crowded
  shrink_rows_lem =
      rw (← units, ← pred_of m) (ap (λ n. pick (not ok) 1 (pick (leb m 1) 9 n))
      (row_pair _ _ 4 ((pair_crowded (view s).size (fill_in (view s)) (m - 1), 7) ∷ [])))

pub raise_rows : (s : List ℕ) (ok : Bool) {k : ℕ} → k ≡ byte s 7
    → first_of (refusals_in ok (view s) Call.raise) ≡ first_of ((not ok, 1) ∷ (leb 3 k, 9) ∷ (ltb 0 (units_out_in (view s)), 4) ∷ [])
unfolding refusals_in
raise_rows s ok e = rw (e ∙ level_of s)

-- the last unit of a store with more than one
pub last_unit : {s : List ℕ} {m : ℕ} → Sized s → m ≡ byte s 6 → 1 < m → (1 ≤ m - 1) × (m - 1 < 16)
last_unit {s} {m} store e some = (omega arith, omega (arith, store.units))

-- ---- a store that was tested
blank : (s : List ℕ) → sound s ≡ true → Blank s
blank s h c r a b out =
    let zero : (eqb ((view s).cstate c) 1 || _) ≡ true = (zeroed_says (view s) (clauses s h).zeros).checks c r a (rw (← size_of s) b) in
    same_true ((view s).check c r) (zeros check_bytes) (or_other (eqb ((view s).cstate c) 1) _ (ne_eqb ((view s).cstate c) 1 (unfold view in out)) zero)

-- ---- what the survey says of all units
pub outs_any : {s : List ℕ} {ok : Bool} {fills first_checks outs : List ℕ} → Surveyed s ok fills first_checks outs → ok ≡ true
    → units_out_in (view s) ≡ sum 4 (λ g. get_or outs g 0)
outs_any {s} {outs = outs} g e = units_out_groups (view s) ∙ sym (sum_ext 4 (λ i. get_or outs i 0) (outs_in (view s)) (λ i l. outs_read g e i refl l))

-- ---- what the survey says of unit m and of the unit that it is split from
module _ {s : List ℕ} {fills first_checks outs : List ℕ} (g : Surveyed s true fills first_checks outs) {m : ℕ} (some : 1 ≤ m) (l : m < 16) where
  pub outs_pair : pair_out (outs_in (view s)) m ≡ pair_out (λ h. get_or outs h 0) m
  unfolding pair_out
  outs_pair = rw (outs_read g refl (m / 4) refl (omega arith), outs_read g refl (split_pointer m / 4) refl (omega (arith, split_below m some)))

  -- none is out in their groups: their records are counted, which the code reads at an index i
  module _ (free : pair_out (λ h. get_or outs h 0) m ≡ false) where
    none : pair_out (outs_in (view s)) m ≡ false
    none = outs_pair ∙ free

    pub own_fill_is : {i : ℕ} → i ≡ m → get_or fills i 0 ≡ fill_in (view s) m
    unfolding pair_out
    own_fill_is ei = own_fill_read g refl m ei l (or_first (ltb 0 (outs_in (view s) (m / 4))) _ none)

    pub from_fill_is : {n i : ℕ} → (n ≡ split_pointer m) × (n < m) → i ≡ n → get_or fills i 0 ≡ fill_in (view s) n
    unfolding pair_out
    from_fill_is {n} en ei =
        own_fill_read g refl n ei (omega (arith, en.1)) (ap (λ u. ltb 0 (outs_in (view s) (u / 4))) en.0 ∙ or_second (ltb 0 (outs_in (view s) (m / 4))) _ none)

    pub splits : {n : ℕ} → (n ≡ split_pointer m) × (n < m) → Split s n m
    splits en = record { sized = found_sized g refl; from = en.0; apart = en.1; unit = l }

    -- both records, at the indices i and j
    module _ {n i j : ℕ} (en : (n ≡ split_pointer m) × (n < m)) (ei : i ≡ n) (ej : j ≡ m) where
      pub crowded_is : pair_crowded (view s).size (fill_in (view s)) m ≡ ltb (byte s 5) (get_or fills i 0 + get_or fills j 0)
      unfolding pair_crowded
      crowded_is = rw (from_fill_is en ei, own_fill_is ej, ← size_of s, en.0)

      pub merges : get_or fills i 0 + get_or fills j 0 ≤ byte s 5
          → Merges s (record { into = n; last = m; count = get_or fills i 0; more = get_or fills j 0 }) × Blank s
      merges room = (record { split = splits en; count = from_fill_is en ei; more = own_fill_is ej; room = room }, blank s (sym g.tested))

-- the level may be raised
pub raises : (s : List ℕ) → 0 ≡ first_of (refusals_in (sound s) (view s) Call.raise) → Long s × (byte s 6 ≤ 16) × (byte s 7 < 3)
unfolding refusals_in
raises s e =
    let free = none_holds (sound s) (view s) Call.raise 0 e refl in
    let good = sound_sized (not-false (sound s) free.0) in
    (good.long, good.units, rw (level_of s) (leb-false _ _ free.1.0))
