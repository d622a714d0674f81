-- What each granted call leaves alone: teach, correct and erase change parity by the change of the field, whatever it was before; unit out, grow and
-- shrink touch nothing but what they are to touch.
use Prim.Native.Nat.{ℕ, suc, ◌+◌, ◌*◌, ◌-◌, ◌/◌, ◌%◌, ◌<◌}
use mathlib.Core.Path.{◌≡◌, refl, ap, ◌∙◌}
use mathlib.Core.Logic.{◌≢◌}
use mathlib.Core.List.{List}
use mathlib.Core.Bool.{true, ◌||◌}
use native.Mathlib.Omega.{arith}
use lib.Dec.{eqb, ltb}
use lib.ListN.{length, set}
use lib.Seq.{get_or-set_same, get_or-set_other}
use borrow.Author.Tests.{eq-eqb, ne_eqb, ltb-true, ltb-false}
use Rattle.buffer.specs.Choice.{pick}
use Rattle.buffer.specs.ChoiceLaws.{by-test, by-pick, pick_true, pick-false}
use Rattle.buffer.specs.TestLaws.{and_false_first}
use Rattle.buffer.specs.Bytes.{byte, zeros}
use Rattle.buffer.specs.ByteLaws.{length_zeros, byte_zeros}
use Rattle.buffer.specs.Table.{tab, upd}
use Rattle.buffer.specs.TableLaws.{upd_same, upd_other, tab_ext, tab_zeros}
use Rattle.group.specs.Widths.{slot_bytes, check_bytes}
use Rattle.model.specs.Units.{split_pointer, begins}
use Rattle.model.specs.Layout.{Store, view, units_in, level_in, slot_of}
use Rattle.model.specs.LayoutLaws.{Shaped, Same, same_refl, same_shaped}
use Rattle.model.specs.Reads.{state_in}
use Rattle.model.specs.Sound.{sound}
use Rattle.model.proofs.SoundSays.{units_few}
use Rattle.model.specs.Changes.{written, erased, unit_lost, dealt, grown_state, grown, merged, shrunk_state, shrunk}
use Rattle.model.specs.ChangeLaws.{written_shaped}
use Rattle.model.specs.Numbers.{unit_out, grow, shrink}
use Rattle.model.specs.MadeAnew.{left_by}
use Rattle.model.specs.LeftAlone.{Follows, Loses, Resizes, LeftAlone}
use Rattle.model.specs.history.Runs.{unit_in}
use Rattle.model.proofs.ChecksFollow.{write_leaves, both_follow}
use Rattle.model.proofs.Left.{shaped, home_in_lem, unit_same}
use Rattle.model.proofs.Left.{teach_sound, teach_slot, teach_room, teach_left, correct_sound, correct_slot, correct_rank, correct_left}
use Rattle.model.proofs.Left.{erase_sound, erase_rank, erase_last, erase_left, out_unit, out_left}
use Rattle.model.proofs.Left.{grow_sound, grow_room, grow_left, shrink_sound, shrink_two, shrink_left}

-- ---- a slot written

written_leaves : (v : Store) → Shaped v → (u r : ℕ) → u < 16 → r < v.size → (x : List ℕ) → length x ≡ slot_bytes → (t : Store) → Same t (written v u r x)
    → Follows v t u (λ q. eqb q r) × (t.slot u r ≡ x)
written_leaves v hv u r hu hr x hx t same =
    write_leaves v hv u r hu hr x hx t (same_shaped t (written v u r x) same (written_shaped v u r x hv hu hr hx)) same

-- ---- a record erased

module _ (v : Store) (hv : Shaped v) (u r last : ℕ) (hu : u < 16) (hr : r < v.size) (hl : last < v.size) (t : Store) (same : Same t (erased v u r last)) where
  abbrev moved : Store
  moved = written v u r (v.slot u last)

  moved_shaped : Shaped moved
  moved_shaped = written_shaped v u r (v.slot u last) hv hu hr (hv.slot u last hu hl)

  emptied : Same t (written moved u last (zeros slot_bytes))
  unfolding erased
  emptied = same

  erased_shaped : Shaped (erased v u r last)
  unfolding erased written
  erased_shaped = written_shaped moved u last (zeros slot_bytes) moved_shaped hu hl (length_zeros slot_bytes)

  ends : Shaped t
  ends = same_shaped t (erased v u r last) same erased_shaped

  erase_leaves : Follows v t u (λ q. eqb q r || eqb q last) × (t.slot u last ≡ zeros slot_bytes) × (r ≢ last → t.slot u r ≡ v.slot u last)
  unfolding written
  erase_leaves =
      let first = written_leaves v hv u r hu hr (v.slot u last) (hv.slot u last hu hl) moved (same_refl moved) in
      let second = written_leaves moved moved_shaped u last hu hl (zeros slot_bytes) (length_zeros slot_bytes) t emptied in (
        both_follow v moved t hv moved_shaped ends u hu (λ q. eqb q r) (λ q. eqb q last) first.0 second.0,
        second.1,
        λ n. second.0.slots u r hu hr (λ _. ne_eqb r last n) ∙ first.1,
      )

-- ---- a unit out

-- a unit whose slots, or check records, are zeros
zero_bytes : (n w : ℕ) (f : ℕ → List ℕ) → ((r : ℕ) → r < n → f r ≡ zeros w) → (i : ℕ) → byte (tab n f) i ≡ 0
zero_bytes n w f h i = ap (λ (x : List ℕ). byte x i) (tab_ext n f (λ _. zeros w) h ∙ tab_zeros n w) ∙ byte_zeros (w * n) i

module _ (v t : Store) (w : ℕ) (hw : w < 28) (same : Same t (unit_lost v w)) where
  states_after : (x : ℕ) → x < 28 → state_in t x ≡ pick (eqb x w) 2 (state_in v x)
  unfolding unit_lost state_in upd pick
  states_after x l =
      by-test (λ b. pick b (t.dstate x) (t.cstate (x - 16)) ≡ pick (eqb x w) 2 (pick b (v.dstate x) (v.cstate (x - 16)))) (ltb x 16)
      (λ e. same.dstate x (ltb-true x 16 e))
      (λ e.
      let back : 16 + (x - 16) ≡ x = omega (arith, ltb-false x 16 e) in
      same.cstate (x - 16) (omega arith) ∙ ap (λ (k : ℕ). pick (eqb k w) 2 (v.cstate (x - 16))) back)

  loses : Loses v t w
  unfolding unit_lost unit_in
  loses = record {
    front = same.front;
    rest = same.rest;
    states = states_after;
    others = λ x l n. unit_same v t x l same.size
        (λ r m d. same.slot x r d m ∙ pick-false (ne_eqb x w n) (zeros slot_bytes) (v.slot x r))
        (λ r m d. same.check (x - 16) r (omega arith) m
        ∙ pick-false (ne_eqb (16 + (x - 16)) w (λ e. n (omega arith))) (zeros check_bytes) (v.check (x - 16) r));
    zeroed = λ i. by-pick (λ y. byte y i ≡ 0) (ltb w 16) _ _
        (λ e. zero_bytes t.size slot_bytes (t.slot w) (λ r m.
        same.slot w r (ltb-true w 16 e) (omega (arith, same.size)) ∙ pick_true (eq-eqb w w refl) (zeros slot_bytes) (v.slot w r)) i)
        (λ e. zero_bytes t.size check_bytes (t.check (w - 16)) (λ r m.
        same.check (w - 16) r (omega arith) (omega (arith, same.size))
        ∙ pick_true (eq-eqb (16 + (w - 16)) w (omega (arith, ltb-false w 16 e))) (zeros check_bytes) (v.check (w - 16) r)) i);
  }

-- ---- unit m added, or removed

module _ (v t : Store) (m : ℕ) (front : length v.front ≡ 8) (hm : m < 16) where
  units_set : (k : ℕ) → t.front ≡ set v.front 6 k → units_in t ≡ k
  unfolding units_in
  units_set k e = ap (λ (x : List ℕ). byte x 6) e ∙ get_or-set_same v.front 6 k 0 (omega arith)

  header_kept : (k : ℕ) → t.front ≡ set v.front 6 k → (i : ℕ) → i ≢ 6 → byte t.front i ≡ byte v.front i
  header_kept k e i n = ap (λ (x : List ℕ). byte x i) e ∙ get_or-set_other v.front 6 i k 0 n

  module _ (size : t.size ≡ v.size) where
    data_same : (u : ℕ) → u < 16 → ((r : ℕ) → r < v.size → t.slot u r ≡ v.slot u r) → unit_in t u ≡ unit_in v u
    data_same u l h = unit_same v t u (omega arith) size (λ r i d. h r i) (λ r i d. absurd (omega arith))

    check_same : (c : ℕ) → c < 12 → ((r : ℕ) → r < v.size → t.check c r ≡ v.check c r) → unit_in t (16 + c) ≡ unit_in v (16 + c)
    check_same c l h =
        let here : 16 + c - 16 ≡ c = omega arith in
        unit_same v t (16 + c) (omega arith) size (λ r i d. absurd (omega arith)) (λ r i d. rw here (h r i))

  grow_leaves : Same t (grown v m) → Resizes v t m × (units_in t ≡ suc m) × (t.dstate m ≡ 1)
      × ((c : ℕ) → c < 12 → 4 * (c / 3) ≡ m → t.cstate c ≡ pick (ltb (c % 3) (level_in v)) 1 0)
  unfolding grown grown_state begins dealt
  grow_leaves same = (
    record {
      header = header_kept (suc m) same.front;
      rest = same.rest;
      dstate = λ u l n. same.dstate u l ∙ upd_other v.dstate m 1 u n;
      cstate = λ c l n. same.cstate c l ∙ pick-false (ne_eqb (4 * (c / 3)) m n) _ (v.cstate c);
      data_units = λ u l n k. data_same same.size u l (λ r i.
          same.slot u r l i ∙ pick-false (ne_eqb u m n) _ _ ∙ pick-false (ne_eqb u (split_pointer m) k) _ (v.slot u r));
      check_units = λ c l e. check_same same.size c l (λ r i. same.check c r l i ∙ pick-false (and_false_first e _) _ (v.check c r));
    },
    units_set (suc m) same.front,
    same.dstate m hm ∙ upd_same v.dstate m 1,
    λ c l e. same.cstate c l ∙ pick_true (eq-eqb (4 * (c / 3)) m e) _ (v.cstate c),
  )

  shrink_leaves : Same t (shrunk v m) → Resizes v t m × (units_in t ≡ m) × (t.dstate m ≡ 0) × ((c : ℕ) → c < 12 → 4 * (c / 3) ≡ m → t.cstate c ≡ 0)
  unfolding shrunk shrunk_state begins merged
  shrink_leaves same = (
    record {
      header = header_kept m same.front;
      rest = same.rest;
      dstate = λ u l n. same.dstate u l ∙ upd_other v.dstate m 0 u n;
      cstate = λ c l n. same.cstate c l ∙ pick-false (ne_eqb (4 * (c / 3)) m n) 0 (v.cstate c);
      data_units = λ u l n k. data_same same.size u l (λ r i.
          same.slot u r l i ∙ pick-false (ne_eqb u m n) _ _ ∙ pick-false (ne_eqb u (split_pointer m) k) _ (v.slot u r));
      check_units = λ c l e. check_same same.size c l (λ r i. same.check c r l i ∙ pick-false e _ (v.check c r));
    },
    units_set m same.front,
    same.dstate m hm ∙ upd_same v.dstate m 0,
    λ c l e. same.cstate c l ∙ pick_true (eq-eqb (4 * (c / 3)) m e) 0 (v.cstate c),
  )

-- EVERY GRANTED CALL
pub left_alone : (s : List ℕ) → LeftAlone s
left_alone s = record {
  by_teach = λ k x z.
      let ok : sound s ≡ true = teach_sound s k x z in
      written_leaves (view s) (shaped s ok) _ _ (home_in_lem s ok k) (teach_room s k x z) (slot_of k x) (teach_slot s k x z) _ (teach_left s k x z);
  by_correct = λ k x z.
      let ok : sound s ≡ true = correct_sound s k x z in
      written_leaves (view s) (shaped s ok) _ _ (home_in_lem s ok k) (correct_rank s k x z) (slot_of k x) (correct_slot s k x z) _ (correct_left s k x z);
  by_erase = λ k z.
      let ok : sound s ≡ true = erase_sound s k z in
      erase_leaves (view s) (shaped s ok) _ _ _ (home_in_lem s ok k) (erase_rank s k z) (erase_last s k z) _ (erase_left s k z);
  by_unit_out = λ w z. loses (view s) (left_by s (unit_out w)) w (out_unit s w z) (out_left s w z);
  by_grow = λ z. grow_leaves (view s) (left_by s grow) _ (shaped s (grow_sound s z)).front (grow_room s z) (grow_left s z);
  by_shrink = λ z.
      let ok : sound s ≡ true = shrink_sound s z in
      shrink_leaves (view s) (left_by s shrink) _ (shaped s ok).front (omega (arith, units_few s ok, shrink_two s z)) (shrink_left s z);
}
