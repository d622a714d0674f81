-- What asking for a plan with a lent list is answered.
use Rattle.std.specs.Prelude.{ℕ, List, [], ltb, length, Result, Ok, Err}
use Rattle.buffer.specs.Choice.{pick}
use Rattle.refusal.specs.declared.Refusal.{Refusal}
use Rattle.refusal.specs.declared.Refusal.TheVariants.{NoRoom}
use Rattle.moves.specs.declared.Move.{Move}

-- asking for a plan with a list of n entries: refused with 7 where it has more moves
unfoldable pub answer_of : ℕ → List Move → Result ℕ Refusal
answer_of n ms = pick (ltb n (length ms)) (Err NoRoom) (Ok (length ms))

-- the moves of a plan, none where making it was refused
abbrev pub made : Result (List Move) Refusal → List Move
made (Ok ms) = ms
made (Err _) = []

-- asking for a plan that may have been refused: refused as it was, else answered as above
abbrev pub asked : ℕ → Result (List Move) Refusal → Result ℕ Refusal
asked n (Ok ms) = answer_of n ms
asked n (Err refusal) = Err refusal
