-- Correct: another field for a record of the key's unit.
use Prim.Native.Nat.{ℕ, ◌/◌, ◌<◌}
use mathlib.Core.Path.{◌≡◌, refl}
use mathlib.Core.Logic.{◌≢◌}
use mathlib.Core.List.{List}
use mathlib.Core.Bool.{false}
use native.Mathlib.Omega.{arith}
use lib.Dec.{ltb}
use lib.ListN.{length, get_or, set, length-set}
use lib.Seq.{get_or-set_same, get_or-set_other}
use borrow.Author.Tests.{eqb-false, leb-false}
use Rattle.model.specs.Numbers.{correct, refusals_in}
use Rattle.model.specs.RowLaws.{Free, row}
use Rattle.model.specs.Perform.{reply, given_in, granted_in}
use Rattle.model.specs.history.Ledger.{Rec, Ledger, empty, home, record_at, rank_of, outs_of, granted, with_records}
use Rattle.model.specs.history.Table.{refusals}
use Rattle.model.specs.history.Answers.{given}
use Rattle.model.specs.history.Typed.{Typed}
use Rattle.model.proofs.history.ledger.Valid.{Good, Valid}
use Rattle.model.proofs.history.ledger.Seek.{rank_key}
use Rattle.model.proofs.history.ledger.Changed.{same_key, set_differ}
use Rattle.model.proofs.history.picture.Seen.{home_seen, home_lt}
use Rattle.model.proofs.history.calls.Simulation.{Simulated}
use Rattle.model.proofs.history.calls.OneList.{by_rank, good_args, valid_with, sound_row, out_row, fill_home, rank_home, write_home}

module _ (l : Ledger) (rest : List ℕ) (h : Valid l) (k : ℕ) (x : List ℕ) (t : Typed (correct k x)) where
  abbrev u : ℕ
  u = home l k

  abbrev rs : List Rec
  rs = l.records (home l k)

  abbrev n : ℕ
  n = rank_of rs k

  abbrev y : Rec
  y = record { key = k; field = x }

  other : (q : ℕ) → (q ≡ n → ⊥) → get_or (set rs n y) q empty ≡ get_or rs q empty
  other q e = get_or-set_other rs n q y empty e

  -- ---- the call is granted

  module _ (f : Free (refusals l (correct k x))) where
    good : Good y
    unfolding refusals
    good = good_args k x t.0 t.1 f.1.0

    quiet : ltb 0 (outs_of l (home l k / 4)) ≡ false
    unfolding refusals
    quiet = f.1.1.1.0

    inside : n < length rs
    unfolding refusals
    inside = leb-false (length rs) n f.1.1.1.1.0

    same : (q : ℕ) → q ≡ n → get_or (set rs n y) q empty ≡ y
    same q e = rw e (get_or-set_same rs n y empty inside)

    corrected_valid : Valid (with_records l u (set rs n y))
    unfolding refusals record_at
    corrected_valid =
        let long : length (set rs n y) ≡ length rs = length-set rs n y in
        let hit : (get_or rs n empty).key ≡ k = rank_key rs k inside in
        valid_with l u (set rs n y) h (home_lt l rest h k) (omega (arith, h.fits u))
        (λ r. by_rank Good (same r) (other r) (λ e. good) (λ e. h.good u r))
        (λ r a. by_rank (λ (z : Rec). z.key ≢ 0) (same r) (other r) (λ e. eqb-false k 0 f.0) (λ e. h.keyed u r (omega arith)))
        (λ r a. rw (same_key rs (h.differ u) n y inside hit r) (h.own u r (omega arith)))
        (set_differ rs (h.differ u) n y inside hit)

  pub correct_simulated : Simulated l rest (correct k x)
  unfolding reply refusals_in refusals granted granted_in given given_in record_at
  correct_simulated = record {
    tests =
        row refl (λ _. row refl (λ _. row (sound_row l rest h) (λ _. row (out_row l rest h k) (λ e.
        row (rw (rank_home l rest h k e, fill_home l rest h k e)) (λ _. tt)))));
    hands = λ f. refl;
    counts = λ f m z. refl;
    bytes = λ f. rw (rank_home l rest h k (quiet f), home_seen l rest h k)
        (write_home l rest h k (quiet f) n y (set rs n y) (omega (arith, inside f, h.fits u)) (good f) (same f) other);
    valid = corrected_valid;
  }
