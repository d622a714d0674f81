-- What a look up of a key for a read answers: its refusal, or the key's place.
use Rattle.std.specs.Prelude.{ℕ, ◌≡◌, List, Result, Ok, Err}
use Rattle.group.specs.Widths.{field_bytes}
use Rattle.model.specs.Layout.{view}
use Rattle.model.specs.Reads.{home_in, listed_rank}
use Rattle.model.specs.Sound.{sound}
use Rattle.lookup.specs.Groups.{Readable}
use Rattle.refusal.specs.Number.{code}
use Rattle.refusal.specs.declared.Refusal.{Refusal}
use Rattle.reading.specs.declared.place.Place.{Place}
use Rattle.reading.specs.Rows.{read_number}

-- key k stands, or is listed, at a rank of its unit at which it can be read or rebuilt
pub record Placed (s : List ℕ) (k unit rank : ℕ) : Type 0 where
  pub there : Readable s unit rank
  pub home : unit ≡ home_in (view s) k
  pub found : rank ≡ listed_rank (view s) unit k

-- a read of key k into n bytes is granted, and x is its place in the store s
pub record Found (s : List ℕ) (k n : ℕ) (x : Place) : Type 0 where
  pub given : 0 ≡ read_number (sound s) (view s) k n
  pub room : n ≡ field_bytes
  pub store : x.survey.store.now ≡ s
  pub placed : Placed s k x.unit x.rank

abbrev pub Verdict : List ℕ → ℕ → ℕ → Result Place Refusal → Type 0
Verdict s k n (Err refusal) = code refusal ≡ read_number (sound s) (view s) k n
Verdict s k n (Ok x) = Found s k n x
