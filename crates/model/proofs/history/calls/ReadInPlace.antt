-- Read in place: the part of the store that holds the field, empty exactly where read, given a buffer that fits, is refused or the unit is out.
use Prim.Native.Nat.{ℕ, ◌+◌, ◌<◌}
use mathlib.Core.Path.{◌≡◌, refl, ap, ◌∙◌}
use mathlib.Core.List.{List, []}
use mathlib.Core.Bool.{Bool, true, false, not, ◌&&◌}
use native.Mathlib.Omega.{arith}
use lib.Dec.{eqb}
use lib.ListN.{length}
use lib.Seq.{take_all}
use borrow.Author.Tests.{not-true}
use Rattle.buffer.specs.Choice.{pick}
use Rattle.buffer.specs.ChoiceLaws.{by-pick}
use Rattle.buffer.specs.TestLaws.{and_first, and_second}
use Rattle.buffer.specs.Bytes.{zeros, part}
use Rattle.group.specs.Widths.{key_bytes, field_bytes}
use Rattle.model.specs.Layout.{Store, view, slot_at}
use Rattle.model.specs.Reads.{home_in, rank_in}
use Rattle.model.specs.Numbers.{read, read_in_place, refusals_in, number_in}
use Rattle.model.specs.Perform.{reply, given_in, granted_in}
use Rattle.model.specs.history.Ledger.{Ledger, home, record_at, rank_of, is_out, state, granted}
use Rattle.model.specs.history.Picture.{picture}
use Rattle.model.specs.history.Table.{refusals, number}
use Rattle.model.specs.history.Answers.{field_of, given}
use Rattle.model.proofs.InPlace.{slot_field, place_given, place_none}
use Rattle.model.proofs.history.ledger.Valid.{Valid}
use Rattle.model.proofs.history.ledger.States.{state_in_lem}
use Rattle.model.proofs.history.picture.Records.{drop_record}
use Rattle.model.proofs.history.picture.Seen.{there, home_seen, home_lt, home_low, dstate_out, rank_seen, slot_seen}
use Rattle.model.proofs.history.calls.Simulation.{Simulated, number_agrees}
use Rattle.model.proofs.history.calls.Read.{found, read_simulated}

module _ (l : Ledger) (rest : List ℕ) (h : Valid l) (k : ℕ) where
  abbrev s : List ℕ
  s = picture l rest

  abbrev v : Store
  v = view (picture l rest)

  -- granted, and the unit in service
  abbrev given_in_lem : Bool
  given_in_lem = eqb (number l (read k (zeros field_bytes))) 0 && not (is_out l (home l k))

  test_seen : (eqb (number_in s (read k (zeros field_bytes))) 0 && not (eqb (v.dstate (home_in v k)) 2)) ≡ given_in_lem
  test_seen = rw (
    number_agrees l rest (read k (zeros field_bytes)) (read_simulated l rest h k (zeros field_bytes)),
    home_seen l rest h k,
    dstate_out l rest h (home l k) (home_low l rest h k),
  )

  field_there : given_in_lem ≡ true → part (slot_at v.size (home_in v k) (rank_in v (home_in v k) k) + key_bytes) field_bytes s ≡ field_of l k
  unfolding field_of part
  field_there e =
      let u : ℕ = home l k in
      let low : u < 16 = home_low l rest h k in
      let kept : is_out l u ≡ false = not-true (is_out l u) (and_second (eqb (number l (read k (zeros field_bytes))) 0) (not (is_out l u)) e) in
      let here : state l u ≡ 1 = state_in_lem l u (there l rest h u (home_lt l rest h k)) kept in
      let r : ℕ = rank_of (l.records u) k in
      let in_list : r < length (l.records u) = found l k (zeros field_bytes) (and_first (eqb (number l (read k (zeros field_bytes))) 0) (not (is_out l u)) e) in
      rw (home_seen l rest h k, rank_seen l rest h u low here k)
      (slot_field s u r
      ∙ ap (part key_bytes field_bytes) (slot_seen l rest h u low here r (omega (arith, h.fits u)))
      ∙ ap (λ (x : List ℕ). part 0 field_bytes x) (drop_record (record_at l u r))
      ∙ take_all field_bytes (record_at l u r).field (omega (arith, (h.good u r).field.size)))

  part_seen : given_in s (read_in_place k) ≡ pick given_in_lem (field_of l k) []
  part_seen =
      by-pick (λ (x : List ℕ). given_in s (read_in_place k) ≡ x) given_in_lem (field_of l k) []
      (λ e. place_given s k (test_seen ∙ e) ∙ field_there e)
      (λ e. place_none s k (test_seen ∙ e))

  pub read_in_place_simulated : Simulated l rest (read_in_place k)
  unfolding reply refusals_in refusals granted granted_in given given_in
  read_in_place_simulated = record {
    tests = tt;
    hands = λ f. part_seen;
    counts = λ f n y. refl;
    bytes = λ f. refl;
    valid = λ f. h;
  }
