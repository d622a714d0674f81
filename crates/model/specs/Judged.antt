-- Document 02, ask 5, in any bytes: losses are judged by the records that are missing, "and never for the number of units out alone".
use Rattle.std.specs.Prelude.{ℕ, ◌+◌, ◌*◌, ◌/◌, ◌≤◌, ◌<◌, ◌≡◌, ◌≢◌, ◌⊎◌, List, true, ◌&&◌, eqb, ltb, length}
use Rattle.buffer.specs.Exactly.{Exactly}
use Rattle.buffer.specs.Range.{count}
use Rattle.group.specs.Widths.{field_bytes}
use Rattle.model.specs.Layout.{Store, view, units_in, level_in}
use Rattle.model.specs.Reads.{home_in, outs_in, listed_fill, listed_rank}
use Rattle.model.specs.Sound.{sound}
use Rattle.model.specs.Numbers.{read, list, repair, number_in}

-- where data unit u is out, no more units of its group are, data and check units together, than the level says
abbrev pub WithinLevel : List ℕ → ℕ → Type 0
WithinLevel s u = (view s).dstate u ≡ 2 → outs_in (view s) (u / 4) ≤ level_in (view s)

-- ---- what is beyond recovery, by states, listed keys and counts. A unit has a record at each rank below the number of its listed keys.

-- data unit u is out, and no check unit of its group is in service: its keys are lost
abbrev pub KeysLost : Store → ℕ → Type 0
KeysLost v u = (v.dstate u ≡ 2) × ((j : ℕ) → j < 3 → v.cstate (3 * (u / 4) + j) ≢ 1)

-- more records of group g at rank r are in data units that are out than check units of it are in service
abbrev pub TooManyMissing : Store → ℕ → ℕ → Type 0
TooManyMissing v g r =
    count 3 (λ j. eqb (v.cstate (3 * g + j)) 1) < count 4 (λ p. eqb (v.dstate (4 * g + p)) 2 && ltb r (listed_fill v (4 * g + p)))

-- of a key: the keys of its unit are lost; or its unit is out, the key is listed, and there are too many missing at its rank
abbrev pub KeyBeyond : Store → ℕ → Type 0
KeyBeyond v k =
    let u : ℕ = home_in v k in
    let r : ℕ = listed_rank v u k in
    KeysLost v u ⊎ ((v.dstate u ≡ 2) × (r < listed_fill v u) × TooManyMissing v (u / 4) r)

-- of a group: the keys of one of its units are lost, or there are too many missing at one rank
abbrev pub GroupBeyond : Store → ℕ → Type 0
GroupBeyond v g = ((p : ℕ) × (p < 4) × KeysLost v (4 * g + p)) ⊎ ((r : ℕ) × (r < v.size) × TooManyMissing v g r)

pub record LossesJudged (s : List ℕ) : Type 0 where
  pub read_exactly : sound s ≡ true → (k : ℕ) → k ≢ 0 → (out : List ℕ) → length out ≡ field_bytes → Exactly (number_in s (read k out) ≡ 8) (KeyBeyond (view s) k)
  pub repair_exactly : sound s ≡ true → (g : ℕ) → 4 * g < units_in (view s) → Exactly (number_in s (repair g) ≡ 8) (GroupBeyond (view s) g)
  pub list_exactly : sound s ≡ true → (out : List ℕ) → Exactly (number_in s (list out) ≡ 8) ((g : ℕ) × (g < 4) × GroupBeyond (view s) g)
  -- what the number of units out does not rule out is granted: a group in place with no more of them than the level says is repaired; a key is not
  -- refused as beyond recovery where its unit is not out or is in such a group, and neither is a list where this holds of all data units
  pub within_level : sound s ≡ true → (g : ℕ) → 4 * g < units_in (view s) → outs_in (view s) g ≤ level_in (view s) → number_in s (repair g) ≡ 0
  pub read_within_level : sound s ≡ true → (k : ℕ) (out : List ℕ) → WithinLevel s (home_in (view s) k) → number_in s (read k out) ≢ 8
  pub list_within_level : sound s ≡ true → (out : List ℕ) → ((u : ℕ) → u < 16 → WithinLevel s u) → number_in s (list out) ≢ 8
  -- with no data unit out a group in place is repaired, however many check units are
  pub checks_alone : sound s ≡ true → (g : ℕ) → 4 * g < units_in (view s) → ((p : ℕ) → p < 4 → (view s).dstate (4 * g + p) ≢ 2) → number_in s (repair g) ≡ 0
  -- a read of a key into a buffer that fits, where the keys of its unit are not lost and the key is not listed, whatever is lost at other ranks
  pub not_listed : sound s ≡ true → (k : ℕ) → k ≢ 0 → (out : List ℕ) → length out ≡ field_bytes → (KeysLost (view s) (home_in (view s) k) → ⊥)
      → listed_fill (view s) (home_in (view s) k) ≤ listed_rank (view s) (home_in (view s) k) k → number_in s (read k out) ≡ 6
