-- Entries of a plan of moves (document 02, ask 6): old unit and rank, new unit and rank, ranks counted from 1; and when two lists of them are the same.
use Rattle.std.specs.Prelude.{ℕ, List, Bool, ◌&&◌, eqb, length, get_or}
use Rattle.buffer.specs.Range.{all}
use Rattle.moves.specs.declared.Move.{Move}

abbrev pub move : ℕ → ℕ → ℕ → ℕ → Move
move u r v q = record { old_unit = u; old_rank = r; new_unit = v; new_rank = q }

-- what stands behind the end of a list
unfoldable pub no_move : Move
no_move = move 0 0 0 0

unfoldable pub same_move : Move → Move → Bool
same_move a b =
    eqb a.old_unit b.old_unit && eqb a.old_rank b.old_rank && eqb a.new_unit b.new_unit && eqb a.new_rank b.new_rank

-- as many entries, and each the same
unfoldable pub same_moves : List Move → List Move → Bool
same_moves xs ys = eqb (length xs) (length ys) && all (length xs) (λ i. same_move (get_or xs i no_move) (get_or ys i no_move))
