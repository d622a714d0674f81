-- Each further call on a picture: its number and its answer are the ledger's.
use Prim.Native.Nat.{ℕ}
use mathlib.Core.List.{List}
use Rattle.model.specs.history.Ledger.{Ledger}
use Rattle.model.specs.history.Further.{Further, plan, commit, counts_as}
use Rattle.model.specs.history.Steps.{CountTyped}
use Rattle.model.proofs.history.ledger.Valid.{Valid}
use Rattle.model.proofs.history.steps.Agrees.{Agrees}
use Rattle.model.proofs.history.steps.Planned.{plan_agrees, commit_agrees}

-- EVERY FURTHER CALL
pub agrees : (l : Ledger) (rest : List ℕ) → Valid l → (a : Further) → CountTyped (counts_as a) → Agrees l rest a
agrees l rest h (plan lent) t = plan_agrees l rest h lent
agrees l rest h (commit lent n) t = commit_agrees l rest h lent n
