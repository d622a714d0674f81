-- On the picture of a ledger that holds a field for a key, that field is handed back: in place, and as an entry of the list.
use Prim.Native.Nat.{ℕ, ◌+◌, ◌*◌, ◌≤◌, ◌<◌}
use mathlib.Core.Path.{◌≡◌, refl, sym, ap₂, ◌∙◌}
use mathlib.Core.List.{List, ◌++◌}
use mathlib.Core.Option.{none, some, none-ne-some, some-injective}
use mathlib.Core.Bool.{Bool, true, false}
use native.Mathlib.Omega.{arith}
use lib.Dec.{eqb, leb}
use lib.ListN.{length, drop, get_or}
use borrow.Author.Tests.{eq-eqb, ne_eqb, leb-false}
use Rattle.buffer.specs.Choice.{pick}
use Rattle.buffer.specs.Range.{sum}
use Rattle.buffer.specs.RangeLaws.{sum_more, sum_mono}
use Rattle.buffer.specs.Bytes.{bytes32, zeros, part}
use Rattle.buffer.specs.ByteLaws.{length_zeros}
use Rattle.buffer.specs.TableLaws.{part_rows}
use Rattle.group.specs.Widths.{field_bytes, slot_bytes}
use Rattle.model.specs.Layout.{view, slot_of}
use Rattle.model.specs.Reads.{home_in}
use Rattle.model.specs.Numbers.{read_in_place, list, first_of, number_in}
use Rattle.model.specs.Perform.{lent, listed, reply, output, perform}
use Rattle.model.specs.history.Ledger.{Rec, empty, Ledger, home, record_at, rank_of, is_out, total}
use Rattle.model.specs.history.Picture.{record_bytes, picture}
use Rattle.model.specs.history.Table.{refusals, number}
use Rattle.model.specs.history.Answers.{field_of, listing, given, answer}
use Rattle.model.proofs.history.ledger.Valid.{Valid}
use Rattle.model.proofs.history.ledger.States.{key_not_beyond}
use Rattle.model.proofs.history.ledger.Seek.{seek_rank, rank_key}
use Rattle.model.proofs.history.taught.Recorded.{recorded, different}
use Rattle.model.proofs.history.picture.Records.{length_record}
use Rattle.model.proofs.history.picture.Seen.{home_seen, home_low, dstate_out}
use Rattle.model.proofs.history.calls.Simulation.{number_agrees, answer_agrees}
use Rattle.model.proofs.history.calls.ReadInPlace.{read_in_place_simulated}
use Rattle.model.proofs.history.calls.List.{list_simulated}
use Rattle.model.proofs.history.claims.History.{ordered_of}

module _ (l : Ledger) (rest : List ℕ) (h : Valid l) (k : ℕ) (x : List ℕ) (e : recorded l k ≡ some x) where
  abbrev rs : List Rec
  rs = l.records (home l k)

  -- the key stands in the list of its unit, with that field
  stands : (leb (length rs) (rank_of rs k) ≡ false) × ((get_or rs (rank_of rs k) empty).field ≡ x)
  unfolding recorded pick
  stands = go (leb (length rs) (rank_of rs k)) refl (sym (seek_rank rs k (different l (ordered_of l h) (home l k))) ∙ e)
    where
      go : (t : Bool) → leb (length rs) (rank_of rs k) ≡ t → pick t none (some (get_or rs (rank_of rs k) empty).field) ≡ some x
          → (leb (length rs) (rank_of rs k) ≡ false) × ((get_or rs (rank_of rs k) empty).field ≡ x)
      go true b q = absurd (none-ne-some x q)
      go false b q = (b, some-injective _ x q)

  low : home l k < 16
  low = home_low l rest h k

  -- read in place, with its unit not out
  lent_by : 1 ≤ k → is_out l (home l k) ≡ false → answer l (read_in_place k) ≡ lent x
  unfolding answer reply given number refusals first_of field_of record_at pick
  lent_by a on = rw (
    ne_eqb k 0 (omega arith),
    eq-eqb (length (zeros field_bytes)) field_bytes (length_zeros field_bytes),
    key_not_beyond l k on,
    on,
    stands.0,
    stands.1,
  )

  pub lent_in_place : 1 ≤ k → eqb ((view (picture l rest)).dstate (home_in (view (picture l rest)) k)) 2 ≡ false
      → (perform (picture l rest) (read_in_place k)).answer ≡ lent x
  lent_in_place a on =
      answer_agrees l rest (read_in_place k) (read_in_place_simulated l rest h k)
      ∙ lent_by a (sym (dstate_out l rest h (home l k) low) ∙ rw (home_seen l rest h k) at on)

  -- as an entry of the list
  abbrev lengths : ℕ → ℕ
  lengths u = length (l.records u)

  ranked : rank_of rs k < length rs
  ranked = leb-false (length rs) (rank_of rs k) stands.0

  abbrev entry : ℕ
  entry = sum (home l k) lengths + rank_of rs k

  counted : entry < total l
  unfolding total
  counted = omega (arith, ranked, sum_more lengths (home l k), sum_mono (home l k + 1) 16 lengths (omega (arith, low)))

  entry_is : (behind : List ℕ) → part (slot_bytes * entry) slot_bytes (listing l ++ behind) ≡ slot_of k x
  unfolding listing slot_of record_bytes record_at
  entry_is behind =
      part_rows slot_bytes lengths (λ u r. record_bytes (record_at l u r)) 16 (λ u r _ _. length_record (record_at l u r) (h.good u r)) behind
      (home l k) (rank_of rs k) low ranked
      ∙ ap₂ (λ (n : ℕ) (y : List ℕ). bytes32 n ++ y) (rank_key rs k ranked) stands.1

  pub listed_as_entry : (out : List ℕ) → number_in (picture l rest) (list out) ≡ 0 → (n : ℕ) × (i : ℕ) × (y : List ℕ)
      × ((perform (picture l rest) (list out)).answer ≡ listed 0 n y) × (i < n) × (part (slot_bytes * i) slot_bytes y ≡ slot_of k x)
  unfolding answer reply given output pick
  listed_as_entry out zero = (
    total l,
    entry,
    listing l ++ drop (length (listing l)) out,
    answer_agrees l rest (list out) (list_simulated l rest h out) ∙ rw (sym (number_agrees l rest (list out) (list_simulated l rest h out)) ∙ zero),
    counted,
    entry_is (drop (length (listing l)) out),
  )
