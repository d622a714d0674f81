use Prim.Native.Nat.{ℕ}
use lib.Dec.{eqb}
use Rattle.buffer.specs.LoopTests.{Seeking}
use Rattle.buffer.specs.Strided.{strided32}
use Rattle.lookup.proofs.find.Given as goal

-- from key i on, the first that is the one is found
abbrev pub invariant-loop-i : goal.invariant-loop-i
invariant-loop-i l =
    Seeking (λ (k : ℕ). eqb (strided32 l.s l.keys.base l.keys.step k) l.key) l.n l.i l.found
