-- What code knows of the units and records that it reads or rebuilds.
use Rattle.std.specs.Prelude.{ℕ, ◌+◌, ◌*◌, ◌/◌, ◌<◌, ◌≡◌, true, false, List, get_or}
use Rattle.model.specs.Layout.{view}
use Rattle.model.specs.Reads.{listed_fill, missing_in, rebuildable_in, keys_lost_in, beyond_in}
use Rattle.lookup.specs.Sized.{Sized}

-- ---- how many keys are listed for the units of group g: for those that are out, and for all whose keys are not lost
pub record Counts (s : List ℕ) (g : ℕ) (fills : List ℕ) : Type 0 where
  pub counted : (p : ℕ) → p < 4 → (view s).dstate (4 * g + p) ≡ 2 → get_or fills (4 * g + p) 0 ≡ listed_fill (view s) (4 * g + p)

pub record CountsKnown (s : List ℕ) (g : ℕ) (fills : List ℕ) : Type 0 where
  pub counted : (p : ℕ) → p < 4 → keys_lost_in (view s) (4 * g + p) ≡ false → get_or fills (4 * g + p) 0 ≡ listed_fill (view s) (4 * g + p)

-- ---- records
-- the record of unit u at rank r is missing, and can be rebuilt
pub record Rebuildable (s : List ℕ) (u r : ℕ) : Type 0 where
  pub sized : Sized s
  pub unit : u < 16
  pub missing : missing_in (view s) u r ≡ true
  pub rank : rebuildable_in (view s) (u / 4) r ≡ true

-- unit u has a record at rank r, and it can be read: if it is missing, it can be rebuilt
pub record Readable (s : List ℕ) (u r : ℕ) : Type 0 where
  pub sized : Sized s
  pub unit : u < 16
  pub listed : r < listed_fill (view s) u
  pub rank : missing_in (view s) u r ≡ true → rebuildable_in (view s) (u / 4) r ≡ true

-- every record can be read
pub record Whole (s : List ℕ) : Type 0 where
  pub sized : Sized s
  pub groups : (g : ℕ) → g < 4 → beyond_in (view s) g ≡ false
