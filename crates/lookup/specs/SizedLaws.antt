-- Laws of what a look into a store may rely on: slots and check records lie within the slice, and every sound store has it.
use Rattle.std.specs.Prelude.{ℕ, ◌+◌, ◌*◌, ◌≤◌, ◌<◌, ◌≡◌, true, List, length}
use Rattle.std.proofs.Common.{arith}
use Rattle.buffer.specs.Bytes.{byte}
use Rattle.group.specs.Widths.{slot_bytes, check_bytes}
use Rattle.model.specs.Layout.{view, slot_at, check_at}
use Rattle.model.specs.Places.{data_units, check_units}
use Rattle.model.specs.LayoutLaws.{rank_within, ranks_within}
use Rattle.model.specs.Sound.{sound}
use Rattle.model.proofs.SoundSays.{ranged}
use Rattle.lookup.specs.Sized.{Sized}

-- ---- a slot and a check record lie within the slice
pub slot_fits : {s : List ℕ} → Sized s → (u r : ℕ) → u < 16 → r < byte s 5 → slot_at (byte s 5) u r + slot_bytes ≤ length s
slot_fits {s} h u r l m = rank_within data_units (byte s 5) u r (length s) l m h.long

pub slots_fit : {s : List ℕ} → Sized s → (u n : ℕ) → u < 16 → n ≤ byte s 5 → slot_at (byte s 5) u 0 + slot_bytes * n ≤ length s
slots_fit {s} h u n l m = ranks_within data_units (byte s 5) u 0 n (length s) l (omega arith) h.long

pub check_fits_lem : {s : List ℕ} → Sized s → (c r : ℕ) → c < 12 → r < byte s 5 → check_at (byte s 5) c r + check_bytes ≤ length s
check_fits_lem {s} h c r l m = rank_within check_units (byte s 5) c r (length s) l m h.long

-- ---- a sound store
pub sound_sized : {s : List ℕ} → sound s ≡ true → Sized s
unfolding view
sound_sized {s} h =
    let r = ranged s h in
    record { some = r.least; ranks = r.most; unit = r.some; units = r.few; long = r.long }
