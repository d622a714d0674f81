use Prim.Native.Nat.{◌-◌}
use mathlib.Core.Bool.{not}
use lib.Dec.{eqb}
use Rattle.soundness.specs.KeyLists.{turned_of}
use Rattle.soundness.proofs.Stepping.{Stepping}
use Rattle.soundness.proofs.keys.is_new.Given as goal

abbrev pub invariant-loop-q : goal.invariant-loop-q
invariant-loop-q l =
    Stepping (λ i. not (eqb (turned_of l.list i) l.k)) l.n l.list.at l.list.step l.q

abbrev pub decreases-loop-q : goal.decreases-loop-q
decreases-loop-q l =
    l.end - l.q
