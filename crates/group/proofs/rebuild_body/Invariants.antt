use mathlib.Core.List.{[], ◌∷◌}
use Rattle.buffer.specs.Bytes.{byte}
use Rattle.buffer.specs.LoopWrites.{Filling}
use Rattle.code.specs.Weights.{mixed}
use Rattle.group.proofs.rebuild_body.Given as goal

abbrev pub invariant-loop-i : goal.invariant-loop-i
invariant-loop-i l =
    Filling (λ k. mixed l.weights (byte l.a k ∷ byte l.b k ∷ byte l.c k ∷ byte l.d k ∷ [])) l.initial.out l.out l.i
