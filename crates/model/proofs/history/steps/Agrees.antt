-- What a history asks of a further call: on the picture of a valid ledger its number and its answer are the ledger's.
use Prim.Native.Nat.{ℕ}
use mathlib.Core.Path.{◌≡◌}
use mathlib.Core.List.{List}
use Rattle.model.specs.history.Ledger.{Ledger}
use Rattle.model.specs.history.Picture.{picture}
use Rattle.model.specs.history.Further.{Further, further_number_in, further_number, further_answer_in, further_answer}

pub record Agrees (l : Ledger) (rest : List ℕ) (a : Further) : Type 0 where
  pub number : further_number_in (picture l rest) a ≡ further_number l a
  pub answer : further_answer_in (picture l rest) a ≡ further_answer l a
