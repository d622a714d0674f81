-- The bytes that list writes: the records of a unit one behind the other, and unit behind unit.
use Rattle.std.specs.Prelude.{ℕ, ◌+◌, ◌*◌, ◌/◌, ◌≤◌, ◌<◌, ◌≡◌, refl, true, List, ◌++◌, length, drop}
use Rattle.std.proofs.Common.{arith}
use Rattle.buffer.specs.Table.{tab}
use Rattle.buffer.specs.TableLaws.{length_tab, tab_room}
use Rattle.group.specs.Widths.{slot_bytes}
use Rattle.model.specs.Layout.{view}
use Rattle.model.specs.Reads.{listed_fill, whole_slot, total_in, listing_in}
use Rattle.model.proofs.ReadLaws.{listing_long}
use Rattle.lookup.specs.Groups.{Counts, Whole}
use Rattle.lookup.specs.GroupLaws.{all_counted, whole_kept}
use Rattle.soundness.specs.Survey.{Surveyed}
use Rattle.soundness.specs.SurveyLaws.{group_counts}
use Rattle.lookup.specs.SlotLaws.{length_record}

-- the records of a unit
abbrev pub records : List ℕ → ℕ → List ℕ
records s u = tab (listed_fill (view s) u) (whole_slot (view s) u)

-- every unit of the group is counted
pub group_counted : {s fills first_checks outs : List ℕ} → Surveyed s true fills first_checks outs → Whole s → (u : ℕ) → u < 16 → Counts s (u / 4) fills
group_counted g whole u l = all_counted (group_counts g refl (u / 4) (omega arith)) (λ p k. whole_kept whole (4 * (u / 4) + p) (omega arith))

module _ {s : List ℕ} (whole : Whole s) where
  pub records_long : (u : ℕ) → u < 16 → length (records s u) ≡ slot_bytes * listed_fill (view s) u
  records_long u l = length_tab (listed_fill (view s) u) slot_bytes (whole_slot (view s) u) (λ r m. length_record whole u r l m)

  -- a buffer with room for all has room for the next unit's
  pub records_fit : (u n room : ℕ) → u < 16 → n ≡ listed_fill (view s) u → slot_bytes * total_in (view s) ≤ room
      → length (tab u (records s)) + slot_bytes * n ≤ room
  unfolding listing_in
  records_fit u n room l e h = omega (arith, tab_room 16 u (records s) l, records_long u l, listing_long (view s) (length_record whole))

pub listing_is : (s o o₀ : List ℕ) → o ≡ tab 16 (records s) ++ drop (length (tab 16 (records s))) o₀
    → o ≡ listing_in (view s) ++ drop (length (listing_in (view s))) o₀
unfolding listing_in
listing_is s o o₀ e = e
