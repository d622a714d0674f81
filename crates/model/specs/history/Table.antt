-- Each call's number by arguments and ledger: document 01's table once more, of the ledger's lists and marks. 1 never applies.
use Rattle.std.specs.Prelude.{ℕ, pred, ◌+◌, ◌*◌, ◌/◌, List, [], ◌∷◌, Bool, false, not, eqb, ltb, leb, length}
use Rattle.group.specs.Widths.{field_bytes, slot_bytes}
use Rattle.model.specs.Units.{split_pointer}
use Rattle.model.specs.Numbers.{Call, teach, correct, erase, read, read_in_place, list, unit_out, repair, grow, shrink, raise, first_of}
use Rattle.model.specs.history.Ledger.{Ledger, home, rank_of, state, outs_of, units_out, key_beyond_of, beyond_of, lost, total}

-- the rows of each call
unfoldable pub refusals : Ledger → Call → List (Bool × ℕ)
refusals l (teach k x) =
    (eqb k 0, 2) ∷ (not (eqb (length x) field_bytes), 2) ∷ (false, 1) ∷ (ltb 0 (outs_of l (home l k / 4)), 4)
    ∷ (ltb (rank_of (l.records (home l k)) k) (length (l.records (home l k))), 5) ∷ (leb l.size (length (l.records (home l k))), 7) ∷ []
refusals l (correct k x) =
    (eqb k 0, 2) ∷ (not (eqb (length x) field_bytes), 2) ∷ (false, 1) ∷ (ltb 0 (outs_of l (home l k / 4)), 4)
    ∷ (leb (length (l.records (home l k))) (rank_of (l.records (home l k)) k), 6) ∷ []
refusals l (erase k) =
    (eqb k 0, 2) ∷ (false, 1) ∷ (ltb 0 (outs_of l (home l k / 4)), 4)
    ∷ (leb (length (l.records (home l k))) (rank_of (l.records (home l k)) k), 6) ∷ []
refusals l (read k x) =
    (eqb k 0, 2) ∷ (not (eqb (length x) field_bytes), 2) ∷ (false, 1) ∷ (key_beyond_of l k, 8)
    ∷ (leb (length (l.records (home l k))) (rank_of (l.records (home l k)) k), 6) ∷ []
refusals l (read_in_place k) = []
refusals l (list x) = (false, 1) ∷ (lost l, 8) ∷ (ltb (length x) (slot_bytes * total l), 7) ∷ []
refusals l (unit_out w) = (ltb 27 w, 2) ∷ (false, 1) ∷ (eqb (state l w) 0, 3) ∷ (eqb (state l w) 2, 4) ∷ []
refusals l (repair g) = (ltb 3 g, 2) ∷ (false, 1) ∷ (leb l.units (4 * g), 3) ∷ (beyond_of l g, 8) ∷ []
refusals l grow = (false, 1) ∷ (leb 16 l.units, 9) ∷ (ltb 0 (outs_of l (l.units / 4)), 4) ∷ (ltb 0 (outs_of l (split_pointer l.units / 4)), 4) ∷ []
refusals l shrink =
    let m : ℕ = pred l.units in
    (false, 1) ∷ (leb l.units 1, 9) ∷ (ltb 0 (outs_of l (m / 4)), 4) ∷ (ltb 0 (outs_of l (split_pointer m / 4)), 4)
    ∷ (ltb l.size (length (l.records (split_pointer m)) + length (l.records m)), 7) ∷ []
refusals l raise = (false, 1) ∷ (leb 3 l.level, 9) ∷ (ltb 0 (units_out l), 4) ∷ []

unfoldable pub number : Ledger → Call → ℕ
number l c = first_of (refusals l c)
