-- A move of the plan of a store.
use Rattle.std.specs.Prelude.{ℕ, ◌+◌, ◌-◌, Bool}
use Rattle.buffer.specs.Choice.{pick}
use Rattle.moves.specs.declared.Move.{Move}
use Rattle.moves.specs.Moves.{move}

-- the move of a record from rank r of unit n, which unit m is split from, where this many records before it leave
unfoldable pub move_from : ℕ → ℕ → ℕ → Bool → ℕ → Move
move_from n m r leaves leaving = pick leaves (move n (r + 1) m (leaving + 1)) (move n (r + 1) n (r - leaving + 1))
