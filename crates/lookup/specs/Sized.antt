-- What a look into a store may rely on: the ranges of its header, and that the slice is long enough.
use Rattle.std.specs.Prelude.{ℕ, ◌≤◌, List, length}
use Rattle.buffer.specs.Bytes.{byte}
use Rattle.model.specs.Layout.{store_bytes}

pub record Sized (s : List ℕ) : Type 0 where
  pub some : 1 ≤ byte s 5  -- ranks of a unit: 1 to 64
  pub ranks : byte s 5 ≤ 64
  pub unit : 1 ≤ byte s 6  -- units: 1 to 16
  pub units : byte s 6 ≤ 16
  pub long : store_bytes (byte s 5) ≤ length s
