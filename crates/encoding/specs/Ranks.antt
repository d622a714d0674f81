-- A rank of a group: its four slots, and its check records.
use Rattle.std.specs.Prelude.{ℕ, ◌<◌, List}
use Rattle.buffer.specs.Bytes.{byte}
use Rattle.model.specs.Places.{Long}

-- rank r of group g is one of a store that the bytes are long enough for
pub record RankIn (s : List ℕ) (g r : ℕ) : Type 0 where
  pub long : Long s
  pub group : g < 4
  pub rank : r < byte s 5
