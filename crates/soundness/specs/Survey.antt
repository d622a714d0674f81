-- What the soundness test hands on of a store.
use Rattle.std.specs.Prelude.{ℕ, ◌≡◌, List, Bool, Option}
use Rattle.std.specs.Bool.{then_some}
use Rattle.buffer.specs.Bytes.{byte}
use Rattle.buffer.specs.Choice.{pick}
use Rattle.buffer.specs.Range.{all}
use Rattle.buffer.specs.Loops.{entries}
use Rattle.model.specs.Layout.{Store, view}
use Rattle.model.specs.Reads.{first_check, outs_in, listed_fill, keys_lost_in}
use Rattle.model.specs.Sound.{sound}
use Rattle.soundness.specs.Pieces.{unit_good, unit_fill}

-- how many keys are listed for a unit; none where they are lost
unfoldable pub known_fill : Store → ℕ → ℕ
known_fill v u = pick (keys_lost_in v u) 0 (listed_fill v u)

-- the keys of each data unit, where those in place are good
unfoldable pub counted_fills : List ℕ → Option (List ℕ)
counted_fills s = then_some (all (byte s 6) (unit_good s)) (entries 16 (unit_fill s))

-- the store is sound, the keys that are listed for each data unit are counted, and for each group the first check unit in service is found and
-- the units out are counted; where it is not sound, nothing is
pub record Surveyed (s : List ℕ) (ok : Bool) (fills first_checks outs : List ℕ) : Type 0 where
  pub tested : ok ≡ sound s
  pub filled : fills ≡ entries 16 (λ u. pick ok (known_fill (view s) u) 0)
  pub kept : first_checks ≡ entries 4 (λ g. pick ok (first_check (view s) g) 0)
  pub out : outs ≡ entries 4 (λ g. pick ok (outs_in (view s) g) 0)
