-- Read: the field of a key, rebuilt where its unit is out.
use Prim.Native.Nat.{ℕ, ◌/◌, ◌<◌}
use mathlib.Core.Path.{◌≡◌, refl}
use mathlib.Core.List.{List}
use mathlib.Core.Bool.{true, false}
use native.Mathlib.Omega.{arith}
use lib.Dec.{eqb}
use lib.ListN.{length}
use borrow.Author.Tests.{leb-false, not-false}
use Rattle.buffer.specs.TestLaws.{and_other, or_false_first, or_false_second}
use Rattle.model.specs.Layout.{view}
use Rattle.model.specs.Reads.{field_in}
use Rattle.model.specs.Numbers.{read, refusals_in}
use Rattle.model.specs.RowLaws.{row}
use Rattle.model.specs.Perform.{reply, given_in, granted_in}
use Rattle.model.specs.history.Ledger.{Ledger, home, record_at, rank_of, is_out, missing_of, keys_lost_of, key_beyond_of, granted}
use Rattle.model.specs.history.Picture.{picture}
use Rattle.model.specs.history.Table.{refusals, number}
use Rattle.model.specs.history.Answers.{field_of, given}
use Rattle.model.proofs.history.ledger.Valid.{Valid}
use Rattle.model.proofs.history.ledger.Granted.{granted_free}
use Rattle.model.proofs.history.picture.Records.{drop_record}
use Rattle.model.proofs.history.picture.Seen.{home_seen, home_low}
use Rattle.model.proofs.history.picture.Listed.{Kept, fill_known, rank_known}
use Rattle.model.proofs.history.picture.Losses.{known, key_beyond_seen}
use Rattle.model.proofs.history.picture.Rebuilt.{Readable, whole_slot_lem}
use Rattle.model.proofs.history.calls.Simulation.{Simulated}
use Rattle.model.proofs.history.calls.OneList.{sound_row}

-- a granted read finds its key
pub found : (l : Ledger) (k : ℕ) (out : List ℕ) → eqb (number l (read k out)) 0 ≡ true → rank_of (l.records (home l k)) k < length (l.records (home l k))
unfolding refusals
found l k out e = leb-false (length (l.records (home l k))) (rank_of (l.records (home l k)) k) (granted_free l (read k out) e).1.1.1.1.0

module _ (l : Ledger) (rest : List ℕ) (h : Valid l) where
  -- a key that is not beyond recovery
  readable : (k : ℕ) → key_beyond_of l k ≡ false → Readable l (home l k) (rank_of (l.records (home l k)) k)
  unfolding key_beyond_of
  readable k e =
      let u : ℕ = home l k in
      let r : ℕ = rank_of (l.records u) k in
      record {
        keys = or_false_first (keys_lost_of l u) _ e;
        rank = λ m. not-false _ (and_other (missing_of l u r) _ m (or_false_second (keys_lost_of l u) _ e));
      }

  keys_known : (k : ℕ) → key_beyond_of l k ≡ false → is_out l (home l k) ≡ true → Kept l rest h (home l k / 4)
  keys_known k e = known l rest h (home l k) (home_low l rest h k) (readable k e).keys

  field_read : (k : ℕ) → key_beyond_of l k ≡ false → rank_of (l.records (home l k)) k < length (l.records (home l k))
      → field_in (view (picture l rest)) k ≡ field_of l k
  unfolding field_in field_of
  field_read k e a =
      let u : ℕ = home l k in
      let low : u < 16 = home_low l rest h k in
      let r : ℕ = rank_of (l.records u) k in
      rw (home_seen l rest h k, rank_known l rest h u low (keys_known k e) k, whole_slot_lem l rest h u low r (omega (arith, h.fits u)) (readable k e))
      (drop_record (record_at l u r))

  pub read_simulated : (k : ℕ) (out : List ℕ) → Simulated l rest (read k out)
  unfolding reply refusals_in refusals granted granted_in given given_in
  read_simulated k out = record {
    tests =
        row refl (λ _. row refl (λ _. row (sound_row l rest h) (λ _. row (key_beyond_seen l rest h k) (λ e.
        let u : ℕ = home l k in
        let low : u < 16 = home_low l rest h k in
        row (rw (home_seen l rest h k, rank_known l rest h u low (keys_known k e) k, fill_known l rest h u low (keys_known k e))) (λ _. tt)))));
    hands = λ f. field_read k f.1.1.1.0 (leb-false _ _ f.1.1.1.1.0);
    counts = λ f n y. refl;
    bytes = λ f. refl;
    valid = λ f. h;
  }
