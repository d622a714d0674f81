use Rattle.buffer.specs.Bytes.{byte}
use Rattle.buffer.specs.LoopWrites.{Filling}
use Rattle.group.specs.Parity.{parity}
use Rattle.group.specs.Four.{four_bodies}
use Rattle.group.proofs.parities.Rows.fill.Given as goal

abbrev pub invariant-loop-i : goal.invariant-loop-i
invariant-loop-i l =
    Filling (byte (parity 0 (four_bodies l.a l.b l.c l.d))) l.initial.x l.x l.i × Filling (byte (parity 1 (four_bodies l.a l.b l.c l.d))) l.initial.y l.y l.i
    × Filling (byte (parity 2 (four_bodies l.a l.b l.c l.d))) l.initial.z l.z l.i
