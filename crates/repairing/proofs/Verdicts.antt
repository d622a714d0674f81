-- The rows of a repair: each way out of the cascade gives the number of the first row that holds. What a granted repair may rely on.
use Rattle.std.specs.Prelude.{ℕ, ◌*◌, ◌≤◌, ◌<◌, ◌≡◌, true, false, List, get_or}
use Rattle.std.proofs.Common.{◌∙◌, refl}
use borrow.Author.Tests.{lt-ltb, le-ltb, le-leb, lt-leb}
use Rattle.buffer.specs.Choice.{pick}
use Rattle.buffer.specs.Bytes.{byte}
use Rattle.model.specs.Layout.{view}
use Rattle.model.specs.StoreLaws.{units_of}
use Rattle.model.specs.Reads.{beyond_in}
use Rattle.model.specs.Sound.{sound}
use Rattle.model.specs.Numbers.{Call, first_of, refusals_in}
use Rattle.model.proofs.LossLaws.{keys_kept}
use Rattle.soundness.specs.Survey.{Surveyed}
use Rattle.soundness.specs.SurveyLaws.{found_sized, group_counts, first_check_read}
use Rattle.lookup.specs.Sized.{Sized}
use Rattle.lookup.specs.GroupLaws.{all_counted}
use Rattle.repairing.specs.declared.Degraded.{Degraded}
use Rattle.repairing.specs.Found.{Known}

-- ---- the rows
module _ (s : List ℕ) (g : ℕ) where
  pub above : 3 < g → 2 ≡ first_of (refusals_in (sound s) (view s) (Call.repair g))
  unfolding refusals_in first_of pick
  above h = rw (lt-ltb 3 g h)

  module _ (low : g ≤ 3) where
    pub unsound : sound s ≡ false → 1 ≡ first_of (refusals_in (sound s) (view s) (Call.repair g))
    unfolding refusals_in first_of pick
    unsound h = rw (le-ltb 3 g low, h)

    module _ (good : sound s ≡ true) where
      pub absent : byte s 6 ≤ 4 * g → 3 ≡ first_of (refusals_in (sound s) (view s) (Call.repair g))
      unfolding refusals_in first_of pick
      absent h = rw (le-ltb 3 g low, good, ← units_of s, le-leb (byte s 6) (4 * g) h)

      module _ (placed : 4 * g < byte s 6) where
        pub beyond : beyond_in (view s) g ≡ true → 8 ≡ first_of (refusals_in (sound s) (view s) (Call.repair g))
        unfolding refusals_in first_of pick
        beyond h = rw (le-ltb 3 g low, good, ← units_of s, lt-leb (byte s 6) (4 * g) placed, h)

        pub free : beyond_in (view s) g ≡ false → 0 ≡ first_of (refusals_in (sound s) (view s) (Call.repair g))
        unfolding refusals_in first_of pick
        free h = rw (le-ltb 3 g low, good, ← units_of s, lt-leb (byte s 6) (4 * g) placed, h)

-- ---- the group is not beyond recovery: the survey has counted its keys, and found its first check unit in service
pub known : {s : List ℕ} {x : Degraded} {fills first_checks outs : List ℕ} {i : ℕ} → Surveyed s true fills first_checks outs → x.group < 4 → i ≡ x.group
    → x.fills ≡ fills → x.check ≡ get_or first_checks i 0 → beyond_in (view s) x.group ≡ false → Known s x
known {s} {x} {fills} g low at f c near =
    let sized : Sized s = found_sized g refl in
    record {
      near = record { sized = sized; group = low; whole = near };
      counts = rw f (all_counted (group_counts g refl x.group low) (keys_kept (view s) x.group near));
      first = c ∙ first_check_read g refl x.group at low;
    }
