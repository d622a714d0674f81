-- One slot written, and followed in the check units: on parts that are a ledger's picture this leaves the picture of the ledger with that record.
-- Nothing is asked of the ledger but records that bytes can hold.
use Prim.Native.Nat.{ℕ, ◌+◌, ◌*◌, ◌/◌, ◌%◌, ◌<◌}
use mathlib.Core.Path.{◌≡◌, refl, sym, ap, ◌∙◌}
use mathlib.Core.List.{List}
use mathlib.Core.Bool.{Bool, ◌&&◌, and-true, and-false}
use native.Mathlib.Omega.{arith}
use lib.Dec.{eqb}
use lib.ListN.{get_or, take, drop}
use borrow.Author.Tests.{eq-eqb, eqb-true, eqb-false}
use Rattle.buffer.specs.Choice.{pick}
use Rattle.buffer.specs.ChoiceLaws.{by-test, by-pick, pick_true, pick-false}
use Rattle.buffer.specs.TestLaws.{by_both}
use Rattle.buffer.specs.Bytes.{zeros}
use Rattle.buffer.specs.Table.{upd}
use Rattle.buffer.specs.TableLaws.{upd-at, upd_other}
use Rattle.group.specs.Widths.{key_bytes, slot_bytes}
use Rattle.group.specs.Body.{add_body}
use Rattle.group.specs.CheckRecord.{patched}
use Rattle.model.specs.Layout.{Store}
use Rattle.model.specs.LayoutLaws.{Same}
use Rattle.model.specs.Changes.{written}
use Rattle.model.specs.history.Ledger.{Rec, Ledger, empty, record_at, placed, state, with_records}
use Rattle.model.specs.history.Picture.{record_bytes, picture_slot, check_over, picture_check, image}
use Rattle.model.proofs.history.ledger.Valid.{Good, Goods}
use Rattle.model.proofs.history.picture.Records.{over_ext, patched_over}
use Rattle.model.proofs.history.picture.Picture.{slot_on, check_on, check_off}

-- ---- the ledger l, and the one in which the records of unit u are rs: those of l, with x at rank r

module _ (l : Ledger) (u r : ℕ) (x : Rec) (rs : List Rec)
    (at_r : (q : ℕ) → q ≡ r → get_or rs q empty ≡ x) (at_q : (q : ℕ) → (q ≡ r → ⊥) → get_or rs q empty ≡ record_at l u q) where
  m : Ledger
  m = with_records l u rs

  hit : (v q : ℕ) → v ≡ u → q ≡ r → record_at m v q ≡ x
  unfolding m record_at with_records
  hit v q e f = rw (upd-at l.records u rs v e) (at_r q f)

  miss : (v q : ℕ) → (v ≡ u → q ≡ r → ⊥) → record_at m v q ≡ record_at l v q
  unfolding m record_at with_records
  miss v q n =
      by-test (λ (t : Bool). get_or (upd l.records u rs v) q empty ≡ get_or (l.records v) q empty) (eqb v u)
      (λ e.
      let same : v ≡ u = eqb-true v u e in
      rw (upd-at l.records u rs v same, same) (at_q q (λ f. n same f)))
      (λ e. rw (upd_other l.records u rs v (eqb-false v u e)))

  same_state : (w : ℕ) → state m w ≡ state l w
  unfolding m state placed with_records
  same_state w = refl

  -- the record at rank q of the place p of check unit c's group
  abbrev group : Ledger → ℕ → ℕ → ℕ → Rec
  group k c q p = record_at k (4 * (c / 3) + p) q

  -- a check record of check place j that follows the record at rank r
  abbrev patch : ℕ → List ℕ → List ℕ
  patch j = patched j (u % 4) (take key_bytes (record_bytes x)) (add_body (drop key_bytes (record_bytes (record_at l u r))) (drop key_bytes (record_bytes x)))

  module _ (h : Goods l) (g : Good x) where
    -- a check record at the rank and of the group
    follows : (c q : ℕ) → c / 3 ≡ u / 4 → q ≡ r → patch (c % 3) (check_over (c % 3) (group l c q)) ≡ check_over (c % 3) (group m c q)
    follows c q e1 e2 =
        let p : ℕ = u % 4 in
        let k : record_at l u r ≡ group l c q p = ap (λ (n : ℕ). record_at l n r) (omega arith) ∙ ap (λ (n : ℕ). record_at l (4 * (c / 3) + p) n) (sym e2) in
        rw k (patched_over (c % 3) p (group l c q) x (omega arith) (omega arith) (λ i. h (4 * (c / 3) + i) q) g
        ∙ over_ext (c % 3) (upd (group l c q) p x) (group m c q) (λ i a. place i a))
      where
        place : (i : ℕ) → i < 4 → upd (group l c q) (u % 4) x i ≡ group m c q i
        place i a = unfold upd in by-pick (λ (y : Rec). y ≡ group m c q i) (eqb i (u % 4)) x (group l c q i)
            (λ e. let same : i ≡ u % 4 = eqb-true i (u % 4) e in sym (hit (4 * (c / 3) + i) q (omega arith) e2))
            (λ e. let other : i ≡ u % 4 → ⊥ = eqb-false i (u % 4) e in sym (miss (4 * (c / 3) + i) q (λ e3 e4. other (omega arith))))

    -- any other
    stays : (c q : ℕ) → (c / 3 ≡ u / 4 → q ≡ r → ⊥) → check_over (c % 3) (group l c q) ≡ check_over (c % 3) (group m c q)
    stays c q n = over_ext (c % 3) (group l c q) (group m c q) (λ i a. sym (miss (4 * (c / 3) + i) q (λ e1 e2. n (omega arith) e2)))

    patched_check : (c q : ℕ)
        → pick (eqb (c / 3) (u / 4) && eqb q r && eqb (state l (16 + c)) 1) (patch (c % 3) (picture_check l c q)) (picture_check l c q) ≡ picture_check m c q
    patched_check c q =
        by-test (λ (t : Bool). eqb (state l (16 + c)) 1 ≡ t
        → pick (eqb (c / 3) (u / 4) && eqb q r && t) (patch (c % 3) (picture_check l c q)) (picture_check l c q) ≡ picture_check m c q)
        (eqb (state l (16 + c)) 1)
        (λ _ e. rw (and-true, check_on l c q e, check_on m c q (rw (same_state (16 + c)) e))
        (by_both (λ (t : Bool). pick t (patch (c % 3) (check_over (c % 3) (group l c q))) (check_over (c % 3) (group l c q)) ≡ check_over (c % 3) (group m c q))
        (c / 3) (u / 4) q r (λ d f. pick_true refl _ _ ∙ follows c q d f) (λ n. pick-false refl _ _ ∙ stays c q n)))
        (λ _ e. rw and-false (pick-false refl _ _ ∙ check_off l c q e ∙ sym (check_off m c q (rw (same_state (16 + c)) e))))
        refl

    -- ---- the parts v are the picture of l

    module _ (v : Store) (rest : List ℕ) (s : Same v (image l rest)) (hu : u < 16) (hr : r < l.size) (here : state l u ≡ 1) where
      old : v.slot u r ≡ record_bytes (record_at l u r)
      unfolding image
      old = s.slot u r hu hr ∙ slot_on l u r (eq-eqb (state l u) 1 here)

      slots : (w q : ℕ) → w < 16 → q < l.size → pick (eqb w u && eqb q r) (record_bytes x) (v.slot w q) ≡ picture_slot m w q
      unfolding picture_slot image
      slots w q a b = by_both (λ (t : Bool). pick t (record_bytes x) (v.slot w q) ≡ picture_slot m w q) w u q r
          (λ e f. pick_true refl (record_bytes x) (v.slot w q)
          ∙ sym (rw (hit w q e f, same_state w, e, here) (pick_true refl (record_bytes x) (zeros slot_bytes))))
          (λ n. pick-false refl (record_bytes x) (v.slot w q) ∙ rw (miss w q n, same_state w) (s.slot w q a b))

      checks : (c q : ℕ) → c < 12 → q < l.size
          → pick (eqb (c / 3) (u / 4) && eqb q r && eqb (v.cstate c) 1)
          (patched (c % 3) (u % 4) (take key_bytes (record_bytes x)) (add_body (drop key_bytes (v.slot u r)) (drop key_bytes (record_bytes x))) (v.check c q))
          (v.check c q) ≡ picture_check m c q
      unfolding image
      checks c q a b = rw (s.cstate c a, s.check c q a b, old) (patched_check c q)

      pub write_same : Same (written v u r (record_bytes x)) (image (with_records l u rs) rest)
      unfolding written image m with_records
      write_same = record {
        front = s.front;
        size = s.size;
        dstate = λ w a. s.dstate w a ∙ sym (same_state w);
        cstate = λ w a. s.cstate w a ∙ sym (same_state (16 + w));
        slot = slots;
        check = checks;
        rest = s.rest;
      }
