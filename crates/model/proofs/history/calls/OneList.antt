-- For the calls that change the list of one unit: its key's unit on a picture, one record written there, and the ledger with the new list is valid
-- again.
use Prim.Native.Nat.{ℕ, ◌/◌, ◌≤◌, ◌<◌}
use mathlib.Core.Path.{◌≡◌, sym, ap, ◌∙◌, subst}
use mathlib.Core.Logic.{◌≢◌}
use mathlib.Core.List.{List}
use mathlib.Core.Bool.{Bool, false, not}
use native.Mathlib.Omega.{arith}
use lib.Dec.{eqb, ltb}
use lib.ListN.{length, get_or}
use borrow.Author.Tests.{eqb-true, eqb-false, ne_eqb, not-false}
use Rattle.buffer.specs.ChoiceLaws.{by-test, by-pick, pick-false}
use Rattle.buffer.specs.Table.{upd}
use Rattle.group.specs.Widths.{field_bytes}
use Rattle.model.specs.Units.{unit_of}
use Rattle.model.specs.Layout.{Store, view, bytes, slot_of}
use Rattle.model.specs.LayoutLaws.{bytes_ext}
use Rattle.model.specs.Reads.{home_in, fill_in, rank_in, outs_in}
use Rattle.model.specs.Sound.{sound}
use Rattle.model.specs.Changes.{written}
use Rattle.model.specs.history.Ledger.{Rec, Ledger, empty, home, record_at, rank_of, placed, state, outs_of, with_records}
use Rattle.model.specs.history.Picture.{record_bytes, picture, image}
use Rattle.model.specs.history.Typed.{Bytes}
use Rattle.model.proofs.history.ledger.Valid.{Good, Valid}
use Rattle.model.proofs.history.picture.Picture.{seen}
use Rattle.model.proofs.history.picture.Seen.{home_seen, home_lt, home_low, outs_seen, serving, fill_seen, rank_seen}
use Rattle.model.proofs.history.picture.Sound.{picture_sound}
use Rattle.model.proofs.history.picture.Writing.{write_same}

-- a record by whether its rank is one that was written
pub by_rank : (P : Rec → Type 0) {r n : ℕ} {x y z : Rec} → (r ≡ n → z ≡ x) → ((r ≡ n → ⊥) → z ≡ y) → (r ≡ n → P x) → ((r ≡ n → ⊥) → P y) → P z
by_rank P {r} {n} {x} {y} {z} a b p q = by-test (λ (t : Bool). P z) (eqb r n)
    (λ e. subst P (sym (a (eqb-true r n e))) (p (eqb-true r n e)))
    (λ e. subst P (sym (b (eqb-false r n e))) (q (eqb-false r n e)))

-- the record of a call's arguments
pub good_args : (k : ℕ) (x : List ℕ) → k < 4294967296 → Bytes x → not (eqb (length x) field_bytes) ≡ false → Good (record { key = k; field = x })
good_args k x a b e = record { key = a; field = record { size = eqb-true (length x) field_bytes (not-false (eqb (length x) field_bytes) e); bytes = b } }

-- the ledger in which the records of unit u are rs
pub valid_with : (l : Ledger) (u : ℕ) (rs : List Rec) → Valid l → u < l.units → length rs ≤ l.size → ((r : ℕ) → Good (get_or rs r empty))
    → ((r : ℕ) → r < length rs → (get_or rs r empty).key ≢ 0)
    → ((r : ℕ) → r < length rs → unit_of l.units (get_or rs r empty).key ≡ u)
    → ((r q : ℕ) → r < q → q < length rs → (get_or rs r empty).key ≢ (get_or rs q empty).key) → Valid (with_records l u rs)
unfolding with_records record_at upd placed
valid_with l u rs h a fits good keyed own differ = record {
  some = h.some;
  few = h.few;
  least = h.least;
  most = h.most;
  levelled = h.levelled;
  topped = h.topped;
  fits = λ v. by-pick (λ (x : List Rec). length x ≤ l.size) (eqb v u) rs (l.records v) (λ e. fits) (λ e. h.fits v);
  good = λ v r. by-pick (λ (x : List Rec). Good (get_or x r empty)) (eqb v u) rs (l.records v) (λ e. good r) (λ e. h.good v r);
  keyed = λ v r. by-pick (λ (x : List Rec). r < length x → (get_or x r empty).key ≢ 0) (eqb v u) rs (l.records v) (λ e. keyed r) (λ e. h.keyed v r);
  own = λ v r. by-pick (λ (x : List Rec). r < length x → unit_of l.units (get_or x r empty).key ≡ v) (eqb v u) rs (l.records v)
      (λ e i. own r i ∙ sym (eqb-true v u e)) (λ e. h.own v r);
  differ = λ v r q. by-pick (λ (x : List Rec). r < q → q < length x → (get_or x r empty).key ≢ (get_or x q empty).key) (eqb v u) rs (l.records v)
      (λ e. differ r q) (λ e. h.differ v r q);
  none = λ v e. pick-false (ne_eqb v u (omega arith)) rs (l.records v) ∙ h.none v e;
  calm = h.calm;
}

module _ (l : Ledger) (rest : List ℕ) (h : Valid l) where
  abbrev v : Store
  v = view (picture l rest)

  -- the row "store not sound"
  pub sound_row : not (sound (picture l rest)) ≡ false
  sound_row = ap not (picture_sound l rest h)

  -- the row "a unit out in the group of the key's unit"
  pub out_row : (k : ℕ) → ltb 0 (outs_in v (home_in v k / 4)) ≡ ltb 0 (outs_of l (home l k / 4))
  out_row k = rw (home_seen l rest h k, outs_seen l rest h (home l k / 4) (omega (arith, home_low l rest h k)))

  -- where it does not hold
  module _ (k : ℕ) (e : ltb 0 (outs_of l (home l k / 4)) ≡ false) where
    pub here : state l (home l k) ≡ 1
    here = serving l rest h (home l k) (home_lt l rest h k) e

    pub fill_home : fill_in v (home_in v k) ≡ length (l.records (home l k))
    fill_home = rw (home_seen l rest h k) (fill_seen l rest h (home l k) (home_low l rest h k) here)

    pub rank_home : rank_in v (home_in v k) k ≡ rank_of (l.records (home l k)) k
    rank_home = rw (home_seen l rest h k) (rank_seen l rest h (home l k) (home_low l rest h k) here k)

    -- one record written, at a rank of the key's unit
    pub write_home : (r : ℕ) (x : Rec) (rs : List Rec) → r < l.size → Good x
        → ((q : ℕ) → q ≡ r → get_or rs q empty ≡ x) → ((q : ℕ) → (q ≡ r → ⊥) → get_or rs q empty ≡ get_or (l.records (home l k)) q empty)
        → bytes (written v (home l k) r (slot_of x.key x.field)) ≡ picture (with_records l (home l k) rs) rest
    unfolding record_at slot_of record_bytes
    write_home r x rs a g p q =
        bytes_ext (written v (home l k) r (record_bytes x)) (image (with_records l (home l k) rs) rest)
        (write_same l (home l k) r x rs p q h.good g v rest (seen l rest h.good) (home_low l rest h k) a here)
