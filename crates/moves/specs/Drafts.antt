-- A plan by value: its moves.
use Rattle.std.specs.Prelude.{ℕ, List, Bool, not, ◌&&◌, eqb, ltb, get_or, replicate}
use Rattle.buffer.specs.Choice.{pick}
use Rattle.buffer.specs.Loops.{entries}
use Rattle.moves.specs.declared.Move.{Move}
use Rattle.moves.specs.declared.plan.Plan.{Plan}
use Rattle.moves.specs.Moves.{no_move}

-- the most moves of a plan
abbrev pub most_moves : ℕ
most_moves = 64

-- the entries of a plan with no move
unfoldable pub blank : List Move
blank = replicate most_moves no_move

-- entry i, which has a place among these
unfoldable pub entry_of : Plan → ℕ → Move
entry_of p i = pick (ltb i most_moves) (get_or p.moves i no_move) no_move

-- its moves
unfoldable pub moves_of : Plan → List Move
moves_of p = entries p.count (entry_of p)

-- a count within a list of n entries that is that of m moves
unfoldable pub right_count : ℕ → ℕ → ℕ → Bool
right_count n c m = not (ltb n c) && eqb c m
