-- Laws of what list writes, in a sound store of which no unit is lost: a record's bytes, where it stands, and the unit of its key.
use Rattle.std.specs.Prelude.{ℕ, ◌+◌, ◌*◌, ◌<◌, ◌≡◌, true, false, List, ◌++◌, length}
use Rattle.std.proofs.Math.Path.{ap}
use Rattle.std.proofs.Common.{◌∙◌, arith, lt-ltb}
use Rattle.buffer.specs.Range.{sum}
use Rattle.buffer.specs.Bytes.{part}
use Rattle.group.specs.Widths.{slot_bytes}
use Rattle.model.specs.Units.{unit_of}
use Rattle.model.specs.Layout.{view, units_in, key_of}
use Rattle.model.specs.Reads.{listed_fill, whole_slot, lost_in, total_in, listing_in}
use Rattle.model.proofs.ReadLaws as reads
use Rattle.model.specs.Sound.{sound}
use Rattle.model.proofs.SoundSays.{listed_own}
use Rattle.lookup.specs.SizedLaws.{sound_sized}
use Rattle.lookup.specs.Groups.{Whole}
use Rattle.lookup.specs.GroupLaws.{whole_kept, whole_readable, safe_store}
use Rattle.lookup.specs.SlotLaws.{whole_key, length_record}

module _ (s : List ℕ) (ok : sound s ≡ true) (safe : lost_in (view s) ≡ false) where
  -- every record can be read
  pub all_whole : Whole s
  all_whole = safe_store (sound_sized ok) safe

  -- a record's bytes
  pub record_long : (u r : ℕ) → u < 16 → r < listed_fill (view s) u → length (whole_slot (view s) u r) ≡ slot_bytes
  record_long = length_record all_whole

  pub listing_long : length (listing_in (view s)) ≡ slot_bytes * total_in (view s)
  listing_long = reads.listing_long (view s) record_long

  -- where it stands: behind those of the units before, and of the ranks before
  pub record_at_lem : (rest : List ℕ) (u r : ℕ) → u < 16 → r < listed_fill (view s) u
      → part (slot_bytes * (sum u (listed_fill (view s)) + r)) slot_bytes (listing_in (view s) ++ rest) ≡ whole_slot (view s) u r
  record_at_lem = reads.record_at_lem (view s) record_long

  module _ (u r : ℕ) (l : u < 16) (m : r < listed_fill (view s) u) where
    rank : r < (view s).size
    rank = omega (arith, reads.listed_le (view s) u)

    -- a record's key lies in its unit
    pub record_home : unit_of (units_in (view s)) (key_of (whole_slot (view s) u r)) ≡ u
    unfolding view
    record_home =
        ap (unit_of (units_in (view s))) (whole_key (whole_readable all_whole u l r m))
        ∙ listed_own s ok u l (whole_kept all_whole u l) r rank (lt-ltb r (listed_fill (view s) u) m)
