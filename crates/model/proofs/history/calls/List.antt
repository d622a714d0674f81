-- List: key and field of all records, by unit and then rank, out units rebuilt.
use Prim.Native.Nat.{ℕ, ◌/◌, ◌<◌}
use mathlib.Core.Path.{◌≡◌, refl, ap, ◌∙◌}
use mathlib.Core.List.{List}
use mathlib.Core.Bool.{false}
use native.Mathlib.Omega.{arith}
use lib.Dec.{eqb}
use lib.ListN.{length}
use Rattle.buffer.specs.Choice.{pick}
use Rattle.buffer.specs.RangeLaws.{none_counted, sum_ext}
use Rattle.buffer.specs.Table.{tab}
use Rattle.buffer.specs.TableLaws.{tab_ext}
use Rattle.model.specs.Layout.{Store, view}
use Rattle.model.specs.Reads.{listed_fill, whole_slot, total_in, listing_in}
use Rattle.model.specs.Numbers.{list, refusals_in}
use Rattle.model.specs.RowLaws.{row}
use Rattle.model.specs.Perform.{listed, output, reply, given_in, granted_in}
use Rattle.model.specs.history.Ledger.{Ledger, record_at, beyond_of, lost, total, granted}
use Rattle.model.specs.history.Picture.{record_bytes, picture}
use Rattle.model.specs.history.Table.{refusals}
use Rattle.model.specs.history.Answers.{listing, given}
use Rattle.model.specs.history.Leaves.{SameRecords}
use Rattle.model.proofs.history.ledger.Valid.{Valid}
use Rattle.model.proofs.history.picture.Listed.{fill_known}
use Rattle.model.proofs.history.picture.Losses.{near_keys, known, lost_seen}
use Rattle.model.proofs.history.picture.Rebuilt.{near, whole_slot_lem}
use Rattle.model.proofs.history.calls.Simulation.{Simulated}
use Rattle.model.proofs.history.calls.OneList.{sound_row}

module _ (l : Ledger) (rest : List ℕ) (h : Valid l) where
  abbrev v : Store
  v = view (picture l rest)

  module _ (ok : lost l ≡ false) where
    group_near : (u : ℕ) → u < 16 → beyond_of l (u / 4) ≡ false
    unfolding lost
    group_near u a = none_counted 4 (beyond_of l) ok (u / 4) (omega arith)

    pub records_seen : SameRecords (view (picture l rest)) l
    records_seen = record {
      counted = λ u a. fill_known l rest h u a (known l rest h u a (near_keys l u (group_near u a)));
      held = λ u r a b. let c : r < l.size = omega (arith, h.fits u) in whole_slot_lem l rest h u a r c (near l u r (group_near u a) c);
    }

    total_seen : total_in v ≡ total l
    unfolding total_in total
    total_seen = sum_ext 16 (listed_fill v) (λ u. length (l.records u)) records_seen.counted

    listing_seen : listing_in v ≡ listing l
    unfolding listing_in listing
    listing_seen = tab_ext 16 (λ u. tab (listed_fill v u) (whole_slot v u)) (λ u. tab (length (l.records u)) (λ r. record_bytes (record_at l u r)))
        (λ u a.
        ap (λ (n : ℕ). tab n (whole_slot v u)) (records_seen.counted u a)
        ∙ tab_ext (length (l.records u)) (whole_slot v u) (λ r. record_bytes (record_at l u r))
        (λ r b. records_seen.held u r a b))

  pub list_simulated : (out : List ℕ) → Simulated l rest (list out)
  unfolding reply refusals_in refusals granted granted_in given given_in
  list_simulated out = record {
    tests = row (sound_row l rest h) (λ _. row (lost_seen l rest h) (λ e. row (rw (total_seen e)) (λ _. tt)));
    hands = λ f. listing_seen f.1.0;
    counts = λ f n y. ap (λ (m : ℕ). listed n (pick (eqb n 0) m 0) (output n y out)) (total_seen f.1.0);
    bytes = λ f. refl;
    valid = λ f. h;
  }
