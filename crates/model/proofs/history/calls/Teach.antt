-- Teach: a record at the end of the list of the key's unit.
use Prim.Native.Nat.{ℕ, ◌/◌, ◌≤◌, ◌<◌, ◌+◌}
use mathlib.Core.Path.{◌≡◌, refl, sym, ◌∙◌}
use mathlib.Core.Logic.{◌≢◌}
use mathlib.Core.List.{List, [], ◌∷◌, ◌++◌}
use mathlib.Core.Bool.{Bool, false}
use native.Mathlib.Omega.{arith}
use lib.Dec.{ltb}
use lib.ListN.{length, get_or, length-append, get_or-eq_default, get_or-append}
use lib.Seq.{get_or_at}
use borrow.Author.Tests.{eqb-false, ltb-true, ltb-false, leb-false}
use Rattle.buffer.specs.ChoiceLaws.{by-test}
use Rattle.model.specs.Units.{unit_of}
use Rattle.model.specs.Numbers.{teach, refusals_in}
use Rattle.model.specs.RowLaws.{Free, row}
use Rattle.model.specs.Perform.{reply, given_in, granted_in}
use Rattle.model.specs.history.Ledger.{Rec, Ledger, empty, home, record_at, rank_of, outs_of, granted, with_records}
use Rattle.model.specs.history.Table.{refusals}
use Rattle.model.specs.history.Answers.{given}
use Rattle.model.specs.history.Typed.{Typed}
use Rattle.model.proofs.history.ledger.Valid.{Good, Valid}
use Rattle.model.proofs.history.ledger.Seek.{Without, rank_without}
use Rattle.model.proofs.history.picture.Seen.{size_seen, home_seen, home_lt}
use Rattle.model.proofs.history.calls.Simulation.{Simulated}
use Rattle.model.proofs.history.calls.OneList.{by_rank, good_args, valid_with, sound_row, out_row, fill_home, rank_home, write_home}

snoc_at : (rs : List Rec) (x : Rec) (q : ℕ) → q ≡ length rs → get_or (rs ++ (x ∷ [])) q empty ≡ x
snoc_at rs x q e = get_or_at rs x [] empty q (sym e)

snoc_other : (rs : List Rec) (x : Rec) (q : ℕ) → (q ≡ length rs → ⊥) → get_or (rs ++ (x ∷ [])) q empty ≡ get_or rs q empty
snoc_other rs x q n = by-test (λ (t : Bool). get_or (rs ++ (x ∷ [])) q empty ≡ get_or rs q empty) (ltb q (length rs))
    (λ e. get_or-append rs (x ∷ []) empty q (ltb-true q (length rs) e))
    (λ e.
    let a : length rs ≤ q = ltb-false q (length rs) e in
    let b : length (rs ++ (x ∷ [])) ≤ q = omega (arith, length-append rs (x ∷ [])) in
    get_or-eq_default (rs ++ (x ∷ [])) empty b ∙ sym (get_or-eq_default rs empty a))

module _ (l : Ledger) (rest : List ℕ) (h : Valid l) (k : ℕ) (x : List ℕ) (t : Typed (teach k x)) where
  abbrev u : ℕ
  u = home l k

  abbrev rs : List Rec
  rs = l.records (home l k)

  abbrev y : Rec
  y = record { key = k; field = x }

  -- ---- the call is granted

  module _ (f : Free (refusals l (teach k x))) where
    good : Good y
    unfolding refusals
    good = good_args k x t.0 t.1 f.1.0

    quiet : ltb 0 (outs_of l (home l k / 4)) ≡ false
    unfolding refusals
    quiet = f.1.1.1.0

    room : length rs < l.size
    unfolding refusals
    room = leb-false l.size (length rs) f.1.1.1.1.1.0

    -- no record of the list has the key
    new : Without rs k
    unfolding refusals
    new = rank_without rs k (ltb-false (rank_of rs k) (length rs) f.1.1.1.1.0)

    taught_valid : Valid (with_records l u (rs ++ (y ∷ [])))
    unfolding refusals record_at home
    taught_valid =
        let more : length (rs ++ (y ∷ [])) ≡ length rs + 1 = length-append rs (y ∷ []) in
        valid_with l u (rs ++ (y ∷ [])) h (home_lt l rest h k) (omega (arith, room))
        (λ r. by_rank Good (snoc_at rs y r) (snoc_other rs y r) (λ e. good) (λ n. h.good u r))
        (λ r a. by_rank (λ (z : Rec). z.key ≢ 0) (snoc_at rs y r) (snoc_other rs y r) (λ e. eqb-false k 0 f.0) (λ n. h.keyed u r (omega arith)))
        (λ r a. by_rank (λ (z : Rec). unit_of l.units z.key ≡ u) (snoc_at rs y r) (snoc_other rs y r) (λ e. refl) (λ n. h.own u r (omega arith)))
        (λ r q a b. rw (snoc_other rs y r (omega arith)) (by_rank (λ (z : Rec). (get_or rs r empty).key ≢ z.key) (snoc_at rs y q) (snoc_other rs y q)
        (λ e. new r (omega arith)) (λ n. h.differ u r q a (omega arith))))

  pub teach_simulated : Simulated l rest (teach k x)
  unfolding reply refusals_in refusals granted granted_in given given_in record_at
  teach_simulated = record {
    tests =
        row refl (λ _. row refl (λ _. row (sound_row l rest h) (λ _. row (out_row l rest h k) (λ e.
        row (rw (rank_home l rest h k e, fill_home l rest h k e)) (λ _. row (rw (fill_home l rest h k e, size_seen l rest h)) (λ _. tt))))));
    hands = λ f. refl;
    counts = λ f n z. refl;
    bytes = λ f. rw (fill_home l rest h k (quiet f), home_seen l rest h k)
        (write_home l rest h k (quiet f) (length rs) y (rs ++ (y ∷ [])) (room f) (good f) (snoc_at rs y) (snoc_other rs y));
    valid = taught_valid;
  }
