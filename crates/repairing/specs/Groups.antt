-- What a repair asks of a store and its group.
use Rattle.std.specs.Prelude.{ℕ, ◌+◌, ◌/◌, ◌<◌, ◌≡◌, false, List}
use Rattle.model.specs.Layout.{view}
use Rattle.model.specs.Places.{Long}
use Rattle.model.specs.Reads.{beyond_in}
use Rattle.buffer.specs.Bytes.{byte}
use Rattle.lookup.specs.Sized.{Sized}
use Rattle.lookup.specs.Groups.{Counts}

-- a group of a store that lies within the slice
pub record Group (s : List ℕ) (g : ℕ) : Type 0 where
  pub long : Long s
  pub group : g < 4

-- a group that is not beyond recovery
pub record Repairable (s : List ℕ) (g : ℕ) : Type 0 where
  pub sized : Sized s
  pub group : g < 4
  pub whole : beyond_in (view s) g ≡ false

-- a unit of such a group that is out, and fills, which has the numbers of keys listed for those of its group that are
pub record OutUnit (s : List ℕ) (u : ℕ) (fills : List ℕ) : Type 0 where
  pub near : Repairable s (u / 4)
  pub unit : u < 16
  pub out : byte s (8 + u) ≡ 2
  pub counts : Counts s (u / 4) fills
