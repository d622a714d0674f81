-- The ledger's answers: numbers, a granted read's field, the part read in place (field or empty), list's count and written bytes; and the ledger
-- after each call.
use Rattle.std.specs.Prelude.{ℕ, List, [], ◌∷◌, not, ◌&&◌, eqb, length}
use Rattle.buffer.specs.Choice.{pick}
use Rattle.buffer.specs.Bytes.{zeros}
use Rattle.buffer.specs.Table.{tab}
use Rattle.group.specs.Widths.{field_bytes}
use Rattle.model.specs.Numbers.{Call, read, by_kind}
use Rattle.model.specs.Perform.{Answer, reply}
use Rattle.model.specs.history.Ledger.{Ledger, home, record_at, rank_of, is_out, total, granted}
use Rattle.model.specs.history.Picture.{record_bytes}
use Rattle.model.specs.history.Table.{number}

-- the field of a key, and key and field of all records by unit and then rank
unfoldable pub field_of : Ledger → ℕ → List ℕ
field_of l k = (record_at l (home l k) (rank_of (l.records (home l k)) k)).field

unfoldable pub listing : Ledger → List ℕ
listing l = tab 16 (λ u. tab (length (l.records u)) (λ r. record_bytes (record_at l u r)))

-- the bytes that a granted call hands back
unfoldable pub given : Ledger → Call → List ℕ
given l c =
    by_kind c (λ k x. []) (λ k. []) (λ k out. field_of l k)
    (λ k. pick (eqb (number l (read k (zeros field_bytes))) 0 && not (is_out l (home l k))) (field_of l k) [])
    (λ out. listing l) [] []

unfoldable pub answer : Ledger → Call → Answer
answer l c = reply c (number l c) (given l c) (total l)

-- a refused call changes nothing
unfoldable pub after : Ledger → Call → Ledger
after l c = pick (eqb (number l c) 0) (granted l c) l

-- the ledger at the end of a list of calls
unfoldable pub final : Ledger → List Call → Ledger
final l [] = l
final l (c ∷ cs) = final (after l c) cs
