use Rattle.buffer.specs.Bytes.{byte}
use Rattle.buffer.specs.LoopWrites.{Filling}
use Rattle.repairing.specs.Steps.{in_service}
use Rattle.repairing.proofs.put_in_service.Given as goal

abbrev pub invariant-loop-state : goal.invariant-loop-state
invariant-loop-state l =
    Filling (λ k. in_service (byte l.initial.states k)) l.initial.states l.states l.state-index
