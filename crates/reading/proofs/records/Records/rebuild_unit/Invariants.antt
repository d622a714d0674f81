use Rattle.std.proofs.Common.{◌*◌, ◌<◌, IfSome}
use Rattle.buffer.specs.LoopWrites.{Appending}
use Rattle.group.specs.Widths.{slot_bytes}
use Rattle.model.specs.Layout.{view}
use Rattle.model.specs.Reads.{listed_fill, whole_slot}
use Rattle.lookup.specs.Decoders.{DecoderOf}
use Rattle.reading.proofs.records.Records.rebuild_unit.Given as goal

-- so far r slots are written, and the last decoder, if there is one, is that of rank r where it reaches there
abbrev pub invariant-loop-r : goal.invariant-loop-r
invariant-loop-r l =
    Appending (whole_slot (view l.s) l.u) (listed_fill (view l.s) l.u) l.initial.out l.out l.r (slot_bytes * l.r)
    × IfSome l.last (λ d. l.r < d.until → DecoderOf l.s l.u l.r d.members d.weights d.until)
