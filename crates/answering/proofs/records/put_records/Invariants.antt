use Prim.Native.Nat.{ℕ, ◌*◌}
use mathlib.Core.Path.{◌≡◌}
use mathlib.Core.List.{List}
use Rattle.std.specs.Prelude.{Option}
use Rattle.buffer.specs.LoopWrites.{Appending}
use Rattle.lines.specs.Put.{record_line_bytes}
use Rattle.answering.specs.Places.{unit_at, unit_in, rank_in, unit_before, rank_before, listed_line}
use Rattle.answering.specs.declared.records.Place.{Place}
use Rattle.answering.proofs.records.put_records.Given as goal

-- before record i: the place of the record before it, and the lines so far
pub record Listed (m : ℕ) (list : List ℕ) (n : ℕ) (out₀ out : List ℕ) (before : Option Place) (i : ℕ) : Type 0 where
  pub unit : unit_in before ≡ unit_before (unit_at m list) i
  pub rank : rank_in before ≡ rank_before (unit_at m list) i
  pub lines : Appending (listed_line m list) n out₀ out i (i * record_line_bytes)

abbrev pub invariant-loop-i : goal.invariant-loop-i
invariant-loop-i l =
    Listed l.m l.list l.count l.initial.out l.out l.before l.i
