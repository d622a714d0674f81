-- `records::put_records` meets its contract.
use Prim.Native.Nat.{ℕ, suc, ◌+◌, ◌-◌, ◌*◌}
use mathlib.Core.Path.{◌≡◌, refl, sym, ap, ◌∙◌}
use mathlib.Core.List.{List}
use native.Mathlib.Omega.{arith}
use native.Mathlib.Nat.{add-zero}
use native.Mathlib.Numerals.{add-one}
use lib.ListN.{take, drop}
use Rattle.std.specs.Prelude.{Option}
use Rattle.buffer.specs.Bytes.{be32, splice, part}
use Rattle.buffer.specs.ByteLaws.{be32_part}
use Rattle.buffer.specs.LoopWrites.{appending_start, appending_turn}
use Rattle.buffer.specs.SpliceLaws.{put_lent, part_lent}
use Rattle.group.specs.Widths.{slot_bytes}
use Rattle.model.specs.Units.{unit_of}
use Rattle.lines.specs.Put.{record_line_bytes}
use Rattle.lines.specs.OutputLaws.{length_record_line}
use Rattle.answering.specs.Places.{unit_at, unit_in, rank_in, rank_behind, unit_before, rank_before, listed_line}
use Rattle.answering.specs.declared.records.Place.{Place}
use Rattle.answering.proofs.records.put_records.Invariants.{Listed}
use Rattle.answering.proofs.records.put_records.Goals as goal

-- the slot of record i
slot_here : (list : List ℕ) (i : ℕ) → take (i * slot_bytes + slot_bytes - i * slot_bytes) (drop (i * slot_bytes) list) ≡ part (slot_bytes * i) slot_bytes list
slot_here list i = part_lent list (i * slot_bytes) slot_bytes (slot_bytes * i) (omega arith)

-- the place that its key gives
next_place : {m : ℕ} {list : List ℕ} {n : ℕ} {out₀ out : List ℕ} {before : Option Place} {place : Place} {i key : ℕ} → Listed m list n out₀ out before i
    → key ≡ be32 (take (i * slot_bytes + slot_bytes - i * slot_bytes) (drop (i * slot_bytes) list)) 0
    → (place.unit ≡ unit_of m key) × (place.rank ≡ rank_behind (unit_in before) (rank_in before) (unit_of m key))
    → (place.unit ≡ unit_at m list i) × (place.rank ≡ rank_before (unit_at m list) (suc i))
unfolding unit_at rank_before
next_place {m} {list} {i = i} h e f =
    let at : ℕ = slot_bytes * i in
    let unit : unit_of m _ ≡ unit_of m (be32 list at) =
    ap (unit_of m) (e ∙ ap (λ s. be32 s 0) (slot_here list i) ∙ be32_part at slot_bytes list 0 (omega arith) ∙ ap (be32 list) (add-zero at)) in
    (f.0 ∙ unit, f.1 ∙ rw (unit, h.unit, h.rank))

pub loop-i-init : goal.loop-i-init
unfolding unit_before rank_before
loop-i-init c =
    record { unit = refl; rank = refl; lines = appending_start }

pub loop-i-preserved : goal.loop-i-preserved
unfolding unit_before listed_line
loop-i-preserved c =
    let l = c.loop-i in
    let list = c.args.list.now in
    let place = next_place l.invariant c.load32.ensures c.next-place.ensures in
    let more : l.i * record_line_bytes + record_line_bytes ≡ (l.i + 1) * record_line_bytes = omega arith in
    record {
      unit = rw (add-one l.i) place.0;
      rank = rw (add-one l.i) place.1;
      lines = rw (← more) (appending_turn record_line_bytes l.invariant.lines c.loop-i-test.true (sym (length_record_line _ _ _)) (omega arith)
          (put_lent l.out _ (l.i * record_line_bytes) record_line_bytes ∙ ap (λ x. splice (l.i * record_line_bytes) record_line_bytes x l.out)
          (c.copy_from_slice.ensures.after ∙ c.record_line-line.ensures ∙ rw (place.0, place.1, slot_here list l.i))));
    }
