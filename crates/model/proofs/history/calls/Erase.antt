-- Erase: the unit's highest-ranked record moves into the freed rank. Between the two writes a key stands twice.
use Prim.Native.Nat.{ℕ, suc, pred, ◌/◌, ◌≤◌, ◌<◌}
use mathlib.Core.Path.{◌≡◌, refl, sym, ap, ◌∙◌, fun_ext}
use mathlib.Core.Logic.{◌≢◌}
use mathlib.Core.List.{List}
use mathlib.Core.Bool.{Bool, true, false}
use native.Mathlib.Omega.{arith}
use lib.Dec.{eqb, ltb}
use lib.ListN.{length, take, get_or, set, length-set, length-take, get_or-eq_default}
use lib.Seq.{get_or-set_same, get_or-set_other, get_or-take}
use borrow.Author.Tests.{leb-false, ltb-true, ltb-false}
use Rattle.buffer.specs.Choice.{pick}
use Rattle.buffer.specs.ChoiceLaws.{by-test, by-pick}
use Rattle.buffer.specs.Table.{upd}
use Rattle.buffer.specs.TableLaws.{upd_same}
use Rattle.model.specs.Units.{unit_of}
use Rattle.model.specs.Layout.{Store, view, bytes}
use Rattle.model.specs.LayoutLaws.{Same, bytes_ext}
use Rattle.model.specs.Numbers.{erase, refusals_in}
use Rattle.model.specs.RowLaws.{Free, row}
use Rattle.model.specs.Changes.{written, erased}
use Rattle.model.specs.Perform.{reply, given_in, granted_in}
use Rattle.model.specs.history.Ledger.{Rec, Ledger, empty, home, record_at, rank_of, placed, state, outs_of, with_records, granted}
use Rattle.model.specs.history.Picture.{record_bytes, image, picture}
use Rattle.model.specs.history.Table.{refusals}
use Rattle.model.specs.history.Answers.{given}
use Rattle.model.proofs.history.ledger.Valid.{Good, empty_good, Goods, Valid}
use Rattle.model.proofs.history.ledger.Seek.{Different}
use Rattle.model.proofs.history.ledger.Changed.{cut_from, cut_differ}
use Rattle.model.proofs.history.picture.Records.{empty_bytes}
use Rattle.model.proofs.history.picture.Picture.{seen}
use Rattle.model.proofs.history.picture.Seen.{home_seen, home_lt, home_low, slot_seen}
use Rattle.model.proofs.history.picture.Writing.{write_same}
use Rattle.model.proofs.history.calls.Simulation.{Simulated}
use Rattle.model.proofs.history.calls.OneList.{by_rank, valid_with, sound_row, out_row, here, fill_home, rank_home}

-- ---- a list cut behind place e

cut_at : (rs : List Rec) (e q : ℕ) → q ≡ e → get_or (take e rs) q empty ≡ empty
cut_at rs e q p = get_or-eq_default (take e rs) empty (omega (arith, length-take e rs))

cut_other : (rs : List Rec) (e q : ℕ) → length rs ≤ suc e → (q ≡ e → ⊥) → get_or (take e rs) q empty ≡ get_or rs q empty
cut_other rs e q a n = by-test (λ (t : Bool). get_or (take e rs) q empty ≡ get_or rs q empty) (ltb q e)
    (λ p. get_or-take e rs q empty (ltb-true q e p))
    (λ p.
    let b : e ≤ q = ltb-false q e p in
    get_or-eq_default (take e rs) empty (omega (arith, length-take e rs)) ∙ sym (get_or-eq_default rs empty (omega arith)))

-- ---- a unit's list replaced, and replaced again

with_twice : (l : Ledger) (u : ℕ) (a b : List Rec) → with_records (with_records l u a) u b ≡ with_records l u b
unfolding with_records upd pick
with_twice l u a b = λ i. record { size = l.size; units = l.units; level = l.level; records = p i; out = l.out }
  where
    go : (t : Bool) (x : List Rec) → pick t b (pick t a x) ≡ pick t b x
    go true x = refl
    go false x = refl

    p : ◌≡◌ {A = ℕ → List Rec} (λ k. pick (eqb k u) b (pick (eqb k u) a (l.records k))) (λ k. pick (eqb k u) b (l.records k))
    p = fun_ext (λ k. go (eqb k u) (l.records k))

with_state : (l : Ledger) (u : ℕ) (rs : List Rec) (w : ℕ) → state (with_records l u rs) w ≡ state l w
unfolding state placed with_records
with_state l u rs w = refl

with_at : (l : Ledger) (u : ℕ) (rs : List Rec) (q : ℕ) → record_at (with_records l u rs) u q ≡ get_or rs q empty
unfolding record_at with_records
with_at l u rs q = ap (λ (x : List Rec). get_or x q empty) (upd_same l.records u rs)

pred_end : (n m : ℕ) → m < n → (pred n < n) × (n ≡ suc (pred n))
pred_end n m h = omega arith

module _ (l : Ledger) (rest : List ℕ) (h : Valid l) (k : ℕ) where
  abbrev v : Store
  v = view (picture l rest)

  abbrev u : ℕ
  u = home l k

  abbrev rs : List Rec
  rs = l.records u

  -- the rank of the key, the last rank, its record, and the list with that record in both places
  abbrev n : ℕ
  n = rank_of rs k

  abbrev e : ℕ
  e = pred (length rs)

  abbrev y : Rec
  y = get_or rs e empty

  abbrev twice : List Rec
  twice = set rs n y

  abbrev m : Ledger
  m = with_records l u twice

  different : (w : ℕ) → Different (l.records w)
  unfolding record_at
  different w = h.differ w

  module _ (f : Free (refusals l (erase k))) where
    quiet : ltb 0 (outs_of l (home l k / 4)) ≡ false
    unfolding refusals
    quiet = f.1.1.0

    inside : n < length rs
    unfolding refusals
    inside = leb-false (length rs) n f.1.1.1.0

    end : (e < length rs) × (length rs ≡ suc e)
    end = pred_end (length rs) n inside

    last : length twice ≤ suc e
    last = omega (arith, end, length-set rs n y)

    same : (q : ℕ) → q ≡ n → get_or twice q empty ≡ y
    same q p = rw p (get_or-set_same rs n y empty inside)

    other : (q : ℕ) → (q ≡ n → ⊥) → get_or twice q empty ≡ get_or rs q empty
    other q p = get_or-set_other rs n q y empty p

    goods : (r : ℕ) → Good (get_or twice r empty)
    unfolding record_at
    goods r = by_rank Good (same r) (other r) (λ p. h.good u e) (λ p. h.good u r)

    goods_twice : Goods m
    unfolding record_at with_records upd
    goods_twice w r = by-pick (λ (x : List Rec). Good (get_or x r empty)) (eqb w u) twice (l.records w) (λ p. goods r) (λ p. h.good w r)

    room : e < l.size
    room = omega (arith, end, h.fits u)

    last_slot : v.slot u e ≡ record_bytes y
    unfolding record_at
    last_slot = slot_seen l rest h u (home_low l rest h k) (here l rest h k quiet) e room

    first_write : Same (written v u n (record_bytes y)) (image m rest)
    unfolding record_at
    first_write = write_same l u n y twice same other h.good (h.good u e) v rest (seen l rest h.good)
        (home_low l rest h k) (omega (arith, inside, h.fits u)) (here l rest h k quiet)

    second_write : Same (written (written v u n (record_bytes y)) u e (record_bytes empty)) (image (with_records m u (take e twice)) rest)
    unfolding with_records
    second_write = write_same m u e empty (take e twice) (cut_at twice e) (λ q p. cut_other twice e q last p ∙ sym (with_at l u twice q))
        goods_twice (empty_good) (written v u n (record_bytes y)) rest first_write
        (home_low l rest h k) room (with_state l u twice u ∙ here l rest h k quiet)

    erase_picture : bytes (erased v u n e) ≡ picture (with_records l u (take e twice)) rest
    unfolding erased
    erase_picture = rw (last_slot, ← empty_bytes)
        (bytes_ext _ _ second_write ∙ ap (λ (z : Ledger). picture z rest) (with_twice l u twice (take e twice)))

    -- what holds of the records of the list holds of those that are left
    left : (P : Rec → Type 0) → ((r : ℕ) → r < length rs → P (get_or rs r empty)) → (r : ℕ) → r < length (take e twice) → P (get_or (take e twice) r empty)
    left P f r a =
        let b : r < e = omega (arith, length-take e twice) in
        cut_from rs (different u) n e inside end.1 P r b (λ _ _. f e end.0) (λ _. f r (omega (arith, end)))

    erase_valid : Valid (with_records l u (take e twice))
    unfolding record_at
    erase_valid = valid_with l u (take e twice) h (home_lt l rest h k) (omega (arith, length-take e twice, length-set rs n y, h.fits u))
        (λ r. by_rank Good (cut_at twice e r) (cut_other twice e r last) (λ p. empty_good) (λ p. goods r))
        (left (λ (z : Rec). z.key ≢ 0) (h.keyed u))
        (left (λ (z : Rec). unit_of l.units z.key ≡ u) (h.own u))
        (cut_differ rs (different u) n e inside end.1)

  pub erase_simulated : Simulated l rest (erase k)
  unfolding reply refusals_in refusals granted granted_in given given_in
  erase_simulated = record {
    tests =
        row refl (λ _. row (sound_row l rest h) (λ _. row (out_row l rest h k) (λ q.
        row (rw (rank_home l rest h k q, fill_home l rest h k q)) (λ _. tt))));
    hands = λ f. refl;
    counts = λ f i z. refl;
    bytes = λ f. rw (rank_home l rest h k (quiet f), fill_home l rest h k (quiet f), home_seen l rest h k) (erase_picture f);
    valid = λ f. erase_valid f;
  }
