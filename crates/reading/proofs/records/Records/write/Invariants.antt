use Rattle.buffer.specs.LoopWrites.{Appending}
use Rattle.reading.proofs.Lists.{records}
use Rattle.reading.proofs.records.Records.write.Given as goal

abbrev pub invariant-loop-u : goal.invariant-loop-u
invariant-loop-u l =
    Appending (records l.self.survey.store.now) 16 l.initial.out l.out l.u l.at
