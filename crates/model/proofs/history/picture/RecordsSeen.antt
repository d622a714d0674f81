-- The records of a unit in service, read from a picture by rank: the bytes of the ledger's list.
use Prim.Native.Nat.{ℕ, ◌<◌}
use mathlib.Core.Path.{◌≡◌, ◌∙◌}
use mathlib.Core.List.{List, map}
use native.Mathlib.Omega.{arith}
use lib.ListN.{length, get_or}
use Rattle.model.specs.Layout.{view}
use Rattle.model.specs.Changes.{records_in}
use Rattle.model.specs.history.Ledger.{Ledger, empty, record_at, state}
use Rattle.model.specs.history.Picture.{record_bytes, picture}
use Rattle.model.proofs.history.ledger.Valid.{Valid}
use Rattle.model.proofs.history.ledger.Dealt.{rows_ext, rows_map}
use Rattle.model.proofs.history.picture.Seen.{slot_seen, fill_seen}

pub records_seen : (l : Ledger) (rest : List ℕ) (h : Valid l) (u : ℕ) → u < 16 → state l u ≡ 1
    → records_in (view (picture l rest)) u ≡ map record_bytes (l.records u)
unfolding records_in record_at
records_seen l rest h u a e =
    rw (fill_seen l rest h u a e)
    (rows_ext (length (l.records u)) ((view (picture l rest)).slot u) (λ r. record_bytes (get_or (l.records u) r empty))
    (λ r b. slot_seen l rest h u a e r (omega (arith, h.fits u)))
    ∙ rows_map record_bytes empty (l.records u))
