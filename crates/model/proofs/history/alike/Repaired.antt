-- A repair leads from alike stores to alike stores: keys are those that a check unit lists, whatever fields are rebuilt.
use Prim.Native.Nat.{ℕ, ◌+◌, ◌*◌, ◌-◌, ◌/◌, ◌%◌, ◌<◌}
use mathlib.Core.Path.{◌≡◌, sym, ap, ◌∙◌}
use mathlib.Core.Logic.{◌≢◌}
use mathlib.Core.List.{List, ◌++◌}
use mathlib.Core.Bool.{true, false, ◌&&◌}
use native.Mathlib.Omega.{arith}
use lib.Dec.{eqb, ltb}
use lib.ListN.{length, take, drop, get_or, length-append, length-drop}
use lib.Seq.{take_at}
use borrow.Author.Tests.{eqb-true, ltb-true, ltb-false}
use Rattle.buffer.specs.ChoiceLaws.{by-pick, pick_true}
use Rattle.buffer.specs.Bytes.{part}
use Rattle.buffer.specs.ByteLaws.{be32_left}
use Rattle.buffer.specs.SpliceLaws.{length_part}
use Rattle.buffer.specs.TableLaws.{tab_ext}
use Rattle.group.specs.Widths.{key_bytes, field_bytes, keys_bytes}
use Rattle.group.specs.Members.{first_four}
use Rattle.group.specs.MembersLaws.{Members, first_four_lem}
use Rattle.group.specs.Rebuilding.{rebuilt}
use Rattle.group.proofs.WeighedLaws.{length_weighed}
use Rattle.group.specs.CheckRecord.{check_record}
use Rattle.group.proofs.CheckRecordLaws.{length_body, length_check_record, check_record_keys}
use Rattle.model.specs.Layout.{Store, key_of}
use Rattle.model.specs.LayoutLaws.{Shaped}
use Rattle.model.specs.Reads.{first_check, listed_key, missing_in, serves_in, holds, whole_slot, rebuildable_in, keys_lost_in, beyond_in}
use Rattle.model.proofs.ReadLaws.{listed_some}
use Rattle.model.proofs.LossLaws.{missing_out, missing_listed, keys_kept, unit_keys_kept, rank_kept, first_check_found, four_serve}
use Rattle.model.proofs.SameLosses.{missing_same, rebuildable_same}
use Rattle.model.specs.Changes.{repaired}
use Rattle.model.proofs.history.alike.Alike.{LikeSlot, LikeCheck, Alike, pick_both, left_shaped, right_shaped, idle_kept, lists_alike, listed_alike}

-- check records made anew from alike slots
pub anew_like : (j : ℕ) (f g : ℕ → List ℕ) → ((p : ℕ) → p < 4 → LikeSlot (f p) (g p)) → LikeCheck (check_record j f) (check_record j g)
anew_like j f g h = record {
  keys =
      check_record_keys field_bytes j f (λ p l. (h p l).left)
      ∙ tab_ext 4 (λ p. take key_bytes (f p)) (λ p. take key_bytes (g p)) (λ p l. (h p l).key)
      ∙ sym (check_record_keys field_bytes j g (λ p l. (h p l).right));
  left = length_check_record field_bytes j f (λ p l. (h p l).left);
  right = length_check_record field_bytes j g (λ p l. (h p l).right);
}

-- ---- a rank of the group g of one store that can be rebuilt

module _ (v : Store) (h : Shaped v) (g : ℕ) (hg : g < 4) (r : ℕ) (hr : r < v.size) (ok : rebuildable_in v g r ≡ true) where
  length_held : (m : ℕ) → m < 7 → length (holds v g r m) ≡ field_bytes
  unfolding holds
  length_held m l =
      by-pick (λ (x : List ℕ). length x ≡ field_bytes) (ltb m 4) (drop key_bytes (v.slot (4 * g + m) r)) (drop keys_bytes (v.check (3 * g + (m - 4)) r))
      (λ e. length_body field_bytes (v.slot (4 * g + m) r) (h.slot (4 * g + m) r (omega (arith, ltb-true m 4 e)) hr))
      (λ e. simp length-drop (omega (arith, h.check (3 * g + (m - 4)) r (omega (arith, ltb-false m 4 e)) hr)))

  length_rebuilt : (p : ℕ) → length (rebuilt (serves_in v g r) (holds v g r) p) ≡ field_bytes
  unfolding rebuilt
  length_rebuilt p =
      let four : Members (serves_in v g r) (first_four (serves_in v g r)) = first_four_lem (serves_in v g r) (four_serve v g r ok) in
      length_weighed field_bytes _ (λ i. holds v g r (get_or (first_four (serves_in v g r)) i 0))
      (λ i l. length_held (get_or (first_four (serves_in v g r)) i 0) (four.low i l))

-- the listed key of a unit out
pub length_listed : (v : Store) → Shaped v → (u r : ℕ) → first_check v (u / 4) < 12 → r < v.size → eqb (v.dstate u) 2 ≡ true
    → length (listed_key v u r) ≡ key_bytes
unfolding listed_key
length_listed v h u r l m e =
    ap length (pick_true e (part (key_bytes * (u % 4)) key_bytes (v.check (first_check v (u / 4)) r)) (take key_bytes (v.slot u r)))
    ∙ length_part (key_bytes * (u % 4)) key_bytes (v.check (first_check v (u / 4)) r) (omega (arith, h.check (first_check v (u / 4)) r l m))

-- slots with one key that is not 0
joined_like : (k l x y : List ℕ) → k ≡ l → length k ≡ key_bytes → length l ≡ key_bytes → length x ≡ field_bytes → length y ≡ field_bytes → key_of k ≢ 0
    → LikeSlot (k ++ x) (l ++ y)
unfolding key_of
joined_like k l x y e a b c d n = record {
  key = take_at k x key_bytes a ∙ e ∙ sym (take_at l y key_bytes b);
  left = length-append k x ∙ omega arith;
  right = length-append l y ∙ omega arith;
  keyless = λ z. absurd (n (sym (be32_left k x 0 (omega arith)) ∙ z));
}

-- ---- the group g of two alike stores

module _ (v w : Store) (a : Alike v w) (g : ℕ) (hg : g < 4) (nb : beyond_in v g ≡ false) where
  right_rank : (r : ℕ) → r < v.size → rebuildable_in w g r ≡ true
  right_rank r l = rebuildable_same v w (lists_alike v w a) g hg (keys_kept v g nb) r ∙ rank_kept v g nb r l

  module _ (u r : ℕ) (hu : u < 16) (hr : r < v.size) (d : u / 4 ≡ g) where
    kept : keys_lost_in v u ≡ false
    kept = unit_keys_kept v u (ap (beyond_in v) d ∙ nb)

    keys_same : listed_key v u r ≡ listed_key w u r
    keys_same = listed_alike v w a u hu kept r hr

    rebuilt_like : missing_in v u r ≡ true
        → LikeSlot (listed_key v u r ++ rebuilt (serves_in v (u / 4) r) (holds v (u / 4) r) (u % 4))
        (listed_key w u r ++ rebuilt (serves_in w (u / 4) r) (holds w (u / 4) r) (u % 4))
    rebuilt_like m =
        let e : eqb (v.dstate u) 2 ≡ true = missing_out v u r m in
        let n : key_of (listed_key v u r) ≢ 0 = listed_some v u r (missing_listed v u r m) in
        let lv : length (listed_key v u r) ≡ key_bytes = length_listed v (left_shaped v w a) u r (omega (arith, first_check_found v u kept e)) hr e in
        rw d (joined_like (listed_key v u r) (listed_key w u r) _ _ keys_same lv (ap length (sym keys_same) ∙ lv)
        (length_rebuilt v (left_shaped v w a) g hg r hr (rank_kept v g nb r hr) (u % 4))
        (length_rebuilt w (right_shaped v w a) g hg r (omega (arith, a.size)) (right_rank r hr) (u % 4)) n)

    whole_like : LikeSlot (whole_slot v u r) (whole_slot w u r)
    unfolding whole_slot
    whole_like = rw (missing_same v w (lists_alike v w a) u hu kept r)
        (pick_both LikeSlot (missing_in v u r) _ _ (v.slot u r) (w.slot u r) rebuilt_like (λ e. a.slot u r hu hr))

  pub repaired_alike : Alike (repaired v g) (repaired w g)
  unfolding repaired
  repaired_alike = record {
    front = a.front;
    whole = a.whole;
    sized = a.sized;
    size = a.size;
    dstate = λ u l. rw (a.dstate u l);
    cstate = λ c l. rw (a.cstate c l);
    slot = λ u r l m. pick_both LikeSlot (eqb (u / 4) g) (whole_slot v u r) (whole_slot w u r) (v.slot u r) (w.slot u r)
        (λ e. whole_like u r l m (eqb-true (u / 4) g e)) (λ _. a.slot u r l m);
    check = λ c r l m. rw (← (a.cstate c l))
        (pick_both LikeCheck (eqb (c / 3) g && eqb (v.cstate c) 2) (made v c r) (made w c r) (v.check c r) (w.check c r)
        (λ _. anew_like (c % 3) _ _ (λ p n. whole_like (4 * g + p) r (omega arith) m (omega arith)))
        (λ _. a.check c r l m));
    idle = λ c r l m. rw (← (a.cstate c l)) (idle_kept v w a (eqb (c / 3) g && eqb (v.cstate c) 2) (made v c r) (made w c r) c r l m);
    rest = a.rest;
  }
    where
      made : Store → ℕ → ℕ → List ℕ
      made s c r = check_record (c % 3) (λ p. whole_slot s (4 * g + p) r)
