-- Where a key belongs in a store, and the rows of the table of numbers that teach, correct and erase share.
use Rattle.std.specs.Prelude.{ℕ, ◌/◌, ◌≤◌, ◌<◌, ◌≡◌, Bool, not, List, [], ◌∷◌, ◌++◌, eqb, ltb, leb}
use Rattle.buffer.specs.Bytes.{byte}
use Rattle.model.specs.Layout.{view}
use Rattle.model.specs.Reads.{home_in, outs_in, fill_in, rank_in}
use Rattle.model.specs.Sound.{sound}
use Rattle.lookup.specs.Sized.{Sized}
use Rattle.writing.specs.declared.Home.{Home}

-- the rows: no key, a field that does not fit, bytes that are not sound, a unit of the key's group out
unfoldable pub opening_rows : List ℕ → ℕ → Bool → List (Bool × ℕ)
opening_rows s k fits = (eqb k 0, 2) ∷ (not fits, 2) ∷ (not (sound s), 1) ∷ (ltb 0 (outs_in (view s) (home_in (view s) k / 4)), 4) ∷ []

-- those of a call on a key that is taught: the same, and that it is not
unfoldable pub taught_rows : List ℕ → ℕ → Bool → List (Bool × ℕ)
taught_rows s k fits = opening_rows s k fits ++ (leb (fill_in (view s) (home_in (view s) k)) (rank_in (view s) (home_in (view s) k) k), 6) ∷ []

-- the unit of key k, how many records it has, and the rank of k among them
pub record Located (s : List ℕ) (k : ℕ) (home : Home) : Type 0 where
  pub sized : Sized s
  pub unit : home_in (view s) k ≡ home.unit
  pub fill : fill_in (view s) home.unit ≡ home.fill
  pub rank : rank_in (view s) home.unit k ≡ home.rank
  pub below : home.unit < 16
  pub most : home.fill ≤ byte s 5
