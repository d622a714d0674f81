-- The changes that touch one unit lead from alike stores to alike stores: a slot written and followed in the check units, a record erased, a unit out.
use Prim.Native.Nat.{ℕ, ◌+◌, ◌*◌, ◌/◌, ◌%◌, ◌<◌}
use mathlib.Core.Path.{◌≡◌, refl, sym, ap, ap₂, ◌∙◌}
use mathlib.Core.List.{List}
use mathlib.Core.Bool.{Bool, ◌&&◌}
use native.Mathlib.Omega.{arith}
use lib.Dec.{eqb}
use lib.ListN.{length, take, drop}
use Rattle.buffer.specs.Choice.{pick}
use Rattle.buffer.specs.ChoiceLaws.{pick-false, pick-ext}
use Rattle.buffer.specs.TestLaws.{and_false_second}
use Rattle.buffer.specs.Bytes.{zeros, splice}
use Rattle.buffer.specs.Table.{upd}
use Rattle.group.specs.Widths.{key_bytes, field_bytes, slot_bytes, check_bytes}
use Rattle.group.specs.Body.{add_body}
use Rattle.group.specs.CheckRecord.{patched}
use Rattle.group.proofs.CheckRecordLaws.{length_key, patched_keys}
use Rattle.model.specs.Layout.{Store}
use Rattle.model.specs.Changes.{written, erased, unit_lost}
use Rattle.model.specs.ChangeLaws.{length_follow}
use Rattle.model.proofs.history.alike.Alike.{LikeSlot, LikeCheck, Alike, pick_both, no_slot, no_check}

-- ---- a check record that follows a slot

module _ (j p : ℕ) (p4 : p < 4) where
  -- alike slots written over alike slots
  patched_like : (x y : List ℕ) → LikeSlot x y → (s t : List ℕ) → LikeSlot s t → (old new : List ℕ) → LikeCheck old new
      → LikeCheck (patched j p (take key_bytes x) (add_body (drop key_bytes s) (drop key_bytes x)) old)
      (patched j p (take key_bytes y) (add_body (drop key_bytes t) (drop key_bytes y)) new)
  patched_like x y h s t i old new k =
      let kx : length (take key_bytes x) ≡ key_bytes = length_key field_bytes x h.left in
      let ky : length (take key_bytes y) ≡ key_bytes = length_key field_bytes y h.right in
      record {
        keys =
            patched_keys j p p4 (take key_bytes x) (add_body (drop key_bytes s) (drop key_bytes x)) old kx (omega (arith, k.left))
            ∙ ap₂ (splice (key_bytes * p) key_bytes) h.key k.keys
            ∙ sym (patched_keys j p p4 (take key_bytes y) (add_body (drop key_bytes t) (drop key_bytes y)) new ky (omega (arith, k.right)));
        left = length_follow j p s x old p4 i.left h.left k.left;
        right = length_follow j p t y new p4 i.right h.right k.right;
      }

-- ---- a slot written

module _ (v w : Store) (a : Alike v w) where
  pub written_alike : (u r : ℕ) → u < 16 → r < v.size → (x y : List ℕ) → LikeSlot x y → Alike (written v u r x) (written w u r y)
  unfolding written
  written_alike u r hu hr x y h = record {
    front = a.front;
    whole = a.whole;
    sized = a.sized;
    size = a.size;
    dstate = a.dstate;
    cstate = a.cstate;
    slot = λ n q l m. pick_both LikeSlot (eqb n u && eqb q r) x y (v.slot n q) (w.slot n q) (λ _. h) (λ _. a.slot n q l m);
    check = λ c q l m. rw (← (a.cstate c l))
        (pick_both LikeCheck (eqb (c / 3) (u / 4) && eqb q r && eqb (v.cstate c) 1) (follows v x c q) (follows w y c q) (v.check c q) (w.check c q)
        (λ _. patched_like (c % 3) (u % 4) (omega arith) x y h (v.slot u r) (w.slot u r) (a.slot u r hu hr) (v.check c q) (w.check c q) (a.check c q l m))
        (λ _. a.check c q l m));
    idle = λ c q l m e.
        let t : Bool = eqb (c / 3) (u / 4) && eqb q r in
        pick-false (and_false_second t e) (follows v x c q) (v.check c q)
        ∙ a.idle c q l m e
        ∙ sym (pick-false (and_false_second t (ap (λ (n : ℕ). eqb n 1) (sym (a.cstate c l)) ∙ e)) (follows w y c q) (w.check c q));
    rest = a.rest;
  }
    where
      follows : Store → List ℕ → ℕ → ℕ → List ℕ
      follows s z c q = patched (c % 3) (u % 4) (take key_bytes z) (add_body (drop key_bytes (s.slot u r)) (drop key_bytes z)) (s.check c q)

  pub erased_alike : (u r last : ℕ) → u < 16 → r < v.size → last < v.size → Alike (erased v u r last) (erased w u r last)
  unfolding erased
  erased_alike u r last hu hr hl = second (written_alike u r hu hr (v.slot u last) (w.slot u last) (a.slot u last hu hl))
    where
      kept : (s : Store) (x : List ℕ) → (written s u r x).size ≡ s.size
      kept s x = unfold written in refl

      second : Alike (written v u r (v.slot u last)) (written w u r (w.slot u last))
          → Alike (written (written v u r (v.slot u last)) u last (zeros slot_bytes)) (written (written w u r (w.slot u last)) u last (zeros slot_bytes))
      second b = Rattle.model.proofs.history.alike.Written.written_alike (written v u r (v.slot u last)) (written w u r (w.slot u last)) b u last hu
          (omega (arith, kept v (v.slot u last))) (zeros slot_bytes) (zeros slot_bytes) no_slot

  -- ---- a unit out

  pub lost_alike : (n : ℕ) → Alike (unit_lost v n) (unit_lost w n)
  unfolding unit_lost upd
  lost_alike n = record {
    front = a.front;
    whole = a.whole;
    sized = a.sized;
    size = a.size;
    dstate = λ u l. ap (pick (eqb u n) 2) (a.dstate u l);
    cstate = λ c l. ap (pick (eqb (16 + c) n) 2) (a.cstate c l);
    slot = λ u r l m. pick_both LikeSlot (eqb u n) (zeros slot_bytes) (zeros slot_bytes) (v.slot u r) (w.slot u r) (λ _. no_slot) (λ _. a.slot u r l m);
    check = λ c r l m. pick_both LikeCheck (eqb (16 + c) n) (zeros check_bytes) (zeros check_bytes) (v.check c r) (w.check c r) (λ _. no_check)
        (λ _. a.check c r l m);
    idle = λ c r l m e. pick-ext (eqb (16 + c) n) (zeros check_bytes) (v.check c r) (zeros check_bytes) (w.check c r) (λ _. refl)
        (λ t. a.idle c r l m (ap (λ (k : ℕ). eqb k 1) (sym (pick-false t 2 (v.cstate c))) ∙ e));
    rest = a.rest;
  }
