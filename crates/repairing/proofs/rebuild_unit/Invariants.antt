use Rattle.std.proofs.Common.{◌<◌, IfSome}
use Rattle.lookup.specs.Decoders.{DecoderOf}
use Rattle.repairing.proofs.Rebuilding.{Progress}
use Rattle.repairing.proofs.rebuild_unit.Given as goal

-- so far r slots are rebuilt, and the last decoder, if there is one, is that of rank r where it reaches there
abbrev pub invariant-loop-r : goal.invariant-loop-r
invariant-loop-r l =
    Progress l.initial.s l.u l.s l.r × IfSome l.last (λ d. l.r < d.until → DecoderOf l.initial.s l.u l.r d.members d.weights d.until)
