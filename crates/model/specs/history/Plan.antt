-- The plan of a grow (document 02, ask 6): one entry a record of the split unit, old unit and rank, new unit and rank, in old rank order; ranks in moves
-- count from 1. By the bytes of a store, and by a ledger.
use Rattle.std.specs.Prelude.{ℕ, suc, List, Bool, not, length}
use Rattle.buffer.specs.Choice.{pick}
use Rattle.buffer.specs.Range.{count}
use Rattle.buffer.specs.Loops.{entries}
use Rattle.moves.specs.declared.Move.{Move}
use Rattle.moves.specs.Moves.{move}
use Rattle.model.specs.Units.{split_pointer, moves}
use Rattle.model.specs.Layout.{Store, units_in, key_of}
use Rattle.model.specs.Reads.{fill_in}
use Rattle.model.specs.history.Ledger.{Ledger, home, record_at, rank_of, grown_ledger}

-- ---- by the bytes: the slots of the split unit

-- does the record at a rank of the split unit leave it?
unfoldable pub leaves : Store → ℕ → Bool
leaves v r = moves (units_in v) (key_of (v.slot (split_pointer (units_in v)) r))

-- a record that leaves goes behind those before it that leave, one that stays behind those before it that stay
unfoldable pub move_in : Store → ℕ → Move
move_in v r =
    let n : ℕ = split_pointer (units_in v) in
    pick (leaves v r) (move n (suc r) (units_in v) (suc (count r (leaves v)))) (move n (suc r) n (suc (count r (λ q. not (leaves v q)))))

unfoldable pub plan_in : Store → List Move
plan_in v = entries (fill_in v (split_pointer (units_in v))) (move_in v)

-- ---- by the ledger: its list of the split unit, and where the grown ledger has each of these keys

unfoldable pub move_of : Ledger → ℕ → Move
move_of l r =
    let n : ℕ = split_pointer l.units in
    let k : ℕ = (record_at l n r).key in
    let u : ℕ = home (grown_ledger l) k in
    move n (suc r) u (suc (rank_of ((grown_ledger l).records u) k))

unfoldable pub plan_of : Ledger → List Move
plan_of l = entries (length (l.records (split_pointer l.units))) (move_of l)
