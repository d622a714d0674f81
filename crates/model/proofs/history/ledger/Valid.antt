-- What every ledger of a history is: its records are such that bytes can hold them, and its lists and its marks are in order.
use Prim.Native.Nat.{ℕ, ◌≤◌, ◌<◌}
use mathlib.Core.Path.{◌≡◌}
use mathlib.Core.Logic.{◌≢◌}
use mathlib.Core.List.{[]}
use mathlib.Core.Bool.{Bool, false}
use native.Mathlib.Omega.{arith}
use lib.ListN.{length}
use Rattle.group.specs.Widths.{field_bytes}
use Rattle.group.specs.Body.{IsBody}
use Rattle.group.specs.BodyLaws.{zeros_is}
use Rattle.model.specs.Units.{unit_of}
use Rattle.model.specs.history.Ledger.{Rec, empty, Ledger, ledger, record_at, placed}

-- a record that bytes can hold
pub record Good (x : Rec) : Type 0 where
  pub key : x.key < 4294967296
  pub field : IsBody field_bytes x.field

pub empty_good : Good empty
unfolding empty
empty_good = record { key = omega arith; field = zeros_is field_bytes }

-- what the bytes need of a ledger's records
abbrev pub Goods : Ledger → Type 0
Goods l = (u r : ℕ) → Good (record_at l u r)

-- what every ledger of a history is
pub record Valid (l : Ledger) : Type 0 where
  pub some : 1 ≤ l.units
  pub few : l.units ≤ 16
  pub least : 1 ≤ l.size
  pub most : l.size ≤ 64
  pub levelled : 1 ≤ l.level
  pub topped : l.level ≤ 3
  pub fits : (u : ℕ) → length (l.records u) ≤ l.size
  pub good : Goods l
  pub keyed : (u r : ℕ) → r < length (l.records u) → (record_at l u r).key ≢ 0
  pub own : (u r : ℕ) → r < length (l.records u) → unit_of l.units (record_at l u r).key ≡ u
  pub differ : (u r q : ℕ) → r < q → q < length (l.records u) → (record_at l u r).key ≢ (record_at l u q).key
  pub none : (u : ℕ) → l.units ≤ u → l.records u ≡ []
  pub calm : (w : ℕ) → placed l w ≡ false → l.out w ≡ false

-- other marks, none of them on a unit that is not in place
pub marked_valid : (l : Ledger) (out : ℕ → Bool) → Valid l → ((w : ℕ) → placed l w ≡ false → out w ≡ false)
    → Valid (ledger l.size l.units l.level l.records out)
unfolding record_at placed
marked_valid l out h calm = record {
  some = h.some;
  few = h.few;
  least = h.least;
  most = h.most;
  levelled = h.levelled;
  topped = h.topped;
  fits = h.fits;
  good = h.good;
  keyed = h.keyed;
  own = h.own;
  differ = h.differ;
  none = h.none;
  calm = calm;
}
