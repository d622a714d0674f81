-- Demand 3: the statements, over every list of steps, base calls and further ones, after one granted layout. What the types give (a key has
-- 32 bits, a slice holds bytes) is the only side condition.
use Rattle.std.specs.Prelude.{ℕ, ◌*◌, ◌<◌, ◌≤◌, ◌≡◌, List, true, false, eqb, ltb, leb, length, drop}
use Rattle.std.proofs.Math.Option.{none, some}
use Rattle.buffer.specs.Choice.{pick}
use Rattle.buffer.specs.Bytes.{part}
use Rattle.group.specs.Widths.{body_bytes, field_bytes, slot_bytes}
use Rattle.model.specs.Layout.{view, store_bytes, units_in, slot_of}
use Rattle.model.specs.Field.{stamped, body_of, stamp_of}
use Rattle.model.specs.Reads.{home_in, state_in}
use Rattle.model.specs.Numbers.{Call, read, read_in_place, list, repair, number_in}
use Rattle.model.specs.Perform.{copied, lent, listed, perform, lay_out}
use Rattle.model.specs.history.Ledger.{Ledger, opened, key_beyond_of, beyond_of}
use Rattle.model.specs.history.Picture.{picture}
use Rattle.model.specs.history.Runs.{final_in, alone_in, all_granted, unit_in, last_taught, as_taught}
use Rattle.model.specs.history.Steps.{Step, step_answers_in, steps_leave_in, calls_in, step_answers, steps_leave}

-- a field has this body and this stamp
abbrev pub HasParts : List ℕ → ℕ → List ℕ → Type 0
HasParts body stamp x = (body_of x ≡ body) × (stamp_of x ≡ stamp)

-- ---- of a store as laid out, the base calls that count, the store as they leave it, and the ledger then

module _ (laid : List ℕ) (cs : List Call) (left : List ℕ) (recorded : Ledger) where
  -- each unit in service holds what the granted calls other than losses and repairs alone would have left there: run alone, from the same
  -- start, they are granted again, and the unit is in service there with the same bytes
  pub record Unlost : Type 0 where
    pub again : all_granted laid (alone_in laid cs) ≡ true
    pub serves : (w : ℕ) → w < 28 → state_in (view left) w ≡ 1 → state_in (view (final_in laid (alone_in laid cs))) w ≡ 1
    pub holds : (w : ℕ) → w < 28 → state_in (view left) w ≡ 1 → unit_in (view left) w ≡ unit_in (view (final_in laid (alone_in laid cs))) w

  -- with a buffer that fits, a key from 1 up reads as last taught or corrected, or as not taught, unless by the ledger's lists it is beyond recovery: its
  -- unit is out and no check unit of its group is in service, or its own rank can't be rebuilt; then the read is refused as that
  abbrev pub ReadsAsTaught : Type 0
  ReadsAsTaught = (k : ℕ) → 1 ≤ k → (out : List ℕ) → length out ≡ field_bytes
      → (perform left (read k out)).answer ≡ pick (key_beyond_of recorded k) (copied 8 out) (as_taught out (last_taught k laid cs none))

  -- the last granted teach or correct of a key gave it this body and this stamp, which may have any value
  pub record TaughtWith (k : ℕ) (body : List ℕ) (stamp : ℕ) : Type 0 where
    pub key : 1 ≤ k
    pub long : length body ≡ body_bytes
    pub small : stamp < 4294967296
    pub last : last_taught k laid cs none ≡ some (stamped body stamp)

  -- what is handed back of the key has both: by a read, where it is not refused as beyond recovery; in place, where the key's unit is not out; and in a
  -- granted list, of which one entry is the key's
  pub record HandsBackBoth (k : ℕ) (body : List ℕ) (stamp : ℕ) : Type 0 where
    pub by_read : (out : List ℕ) → length out ≡ field_bytes
        → key_beyond_of recorded k ≡ false → (x : List ℕ) × ((perform left (read k out)).answer ≡ copied 0 x) × HasParts body stamp x
    pub in_place : eqb ((view left).dstate (home_in (view left) k)) 2 ≡ false
        → (x : List ℕ) × ((perform left (read_in_place k)).answer ≡ lent x) × HasParts body stamp x
    pub by_list : (out : List ℕ) → number_in left (list out) ≡ 0
        → (n : ℕ) × (i : ℕ) × (x : List ℕ) × (y : List ℕ) × ((perform left (list out)).answer ≡ listed 0 n x)
        × (i < n) × (part (slot_bytes * i) slot_bytes x ≡ slot_of k y) × HasParts body stamp y

  -- the repair of a group in place is refused as beyond recovery exactly where by the ledger's lists one of its data units is out and no check unit of it
  -- is in service, or one of its ranks can't be rebuilt, and else granted
  abbrev pub BeyondRecovery : Type 0
  BeyondRecovery = (g : ℕ) → number_in left (repair g)
      ≡ pick (ltb 3 g) 2 (pick (leb (units_in (view left)) (4 * g)) 3 (pick (beyond_of recorded g) 8 0))

  -- what was taught is kept
  pub record KeepsTaught : Type 0 where
    pub unlost : Unlost
    pub reads_as_taught : ReadsAsTaught
    pub with_stamps : (k : ℕ) (body : List ℕ) (stamp : ℕ) → TaughtWith k body stamp → HandsBackBoth k body stamp
    pub beyond_recovery : BeyondRecovery

-- ---- after one granted layout, whatever the steps

module _ (s : List ℕ) (b : ℕ) (xs : List Step) where
  -- the store as laid out, the base calls that the steps count as (a granted commit as a grow), the store as the steps leave it, and the ledger then
  abbrev pub laid : List ℕ
  laid = (lay_out s b).store

  abbrev pub calls : List Call
  calls = calls_in (lay_out s b).store xs

  abbrev pub left : List ℕ
  left = steps_leave_in (lay_out s b).store xs

  abbrev pub recorded : Ledger
  recorded = steps_leave (opened b) xs

  -- all answers are those of the ledger, and the store ends, byte for byte, as the ledger pictures it; behind it nothing is touched
  pub record Histories : Type 0 where
    pub answered : step_answers_in laid xs ≡ step_answers (opened b) xs
    pub pictured : left ≡ picture recorded (drop (store_bytes b) s)

  -- DEMAND 3: a taught position outlives its unit. One claim about the whole list.
  pub record Outlives : Type 0 where
    pub histories : Histories
    pub keeps_taught : KeepsTaught laid calls left recorded
