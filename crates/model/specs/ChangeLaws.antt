-- Changes of a store keep its shape, and don't tell stores apart whose parts are the same.
use Rattle.std.specs.Prelude.{ℕ, ◌/◌, ◌%◌, ◌<◌, ◌≡◌, List, false, not, ◌&&◌, take, drop}
use Rattle.std.proofs.Math.Path.{refl}
use Rattle.std.proofs.Common.{ap, ◌∙◌, arith, length-append, eqb-true}
use Rattle.std.proofs.Math.Dec.{eqb}
use Rattle.std.proofs.Math.ListN.{length}
use Rattle.std.proofs.lemmas.Bool.{not-false}
use Rattle.buffer.specs.ChoiceLaws.{by-pick}
use Rattle.buffer.specs.Bytes.{bytes32}
use Rattle.buffer.specs.ByteLaws.{length_bytes32}
use Rattle.group.specs.Widths.{key_bytes, field_bytes, slot_bytes, check_bytes}
use Rattle.group.specs.Body.{add_body}
use Rattle.group.specs.BodyLaws.{length_add}
use Rattle.group.specs.CheckRecord.{patched}
use Rattle.group.proofs.CheckRecordLaws.{length_key, length_body, length_patched}
use Rattle.model.specs.Layout.{Store, bytes, view, slot_of}
use Rattle.model.specs.LayoutLaws.{Shaped, Same, bytes_ext, view_bytes}
use Rattle.model.specs.Changes.{written}

-- ---- a change of the bytes of t is that change of t, if the change doesn't tell stores apart whose parts are the same
pub on_bytes : (f : Store → Store) (t : Store) (s : List ℕ) → Shaped t → s ≡ bytes t → (Same (view (bytes t)) t → Same (f (view (bytes t))) (f t))
    → bytes (f (view s)) ≡ bytes (f t)
on_bytes f t s h e k = ap (λ x. bytes (f (view x))) e ∙ bytes_ext (f (view (bytes t))) (f t) (k (view_bytes t h))

-- ---- the slot of a call's arguments
pub length_args : (k : ℕ) (x : List ℕ) → not (eqb (length x) field_bytes) ≡ false → length (slot_of k x) ≡ slot_bytes
unfolding slot_of
length_args k x e = length-append (bytes32 k) x ∙ omega (arith, length_bytes32 k, eqb-true (length x) field_bytes (not-false (eqb (length x) field_bytes) e))

-- ---- a slot x written over a slot s: the change of its field, and a check record c that follows it
pub length_change : (s x : List ℕ) → length s ≡ slot_bytes → length x ≡ slot_bytes → length (add_body (drop key_bytes s) (drop key_bytes x)) ≡ field_bytes
length_change s x hs hx = length_add field_bytes (drop key_bytes s) (drop key_bytes x) (length_body field_bytes s hs) (length_body field_bytes x hx)

pub length_follow : (j p : ℕ) (s x c : List ℕ) → p < 4 → length s ≡ slot_bytes → length x ≡ slot_bytes → length c ≡ check_bytes
    → length (patched j p (take key_bytes x) (add_body (drop key_bytes s) (drop key_bytes x)) c) ≡ check_bytes
length_follow j p s x c hp hs hx hc =
    length_patched field_bytes j p (take key_bytes x) (add_body (drop key_bytes s) (drop key_bytes x)) c hp (length_key field_bytes x hx) (length_change s x hs hx) hc

module _ (s : Store) (u r : ℕ) (x : List ℕ) where
  pub written_size : (written s u r x).size ≡ s.size
  unfolding written
  written_size = refl

  pub written_shaped : Shaped s → u < 16 → r < s.size → length x ≡ slot_bytes → Shaped (written s u r x)
  unfolding written
  written_shaped h hu hr hx = record {
    front = h.front;
    size = h.size;
    slot = λ v q a b. by-pick (λ y. length y ≡ slot_bytes) (eqb v u && eqb q r) x (s.slot v q) (λ _. hx) (λ _. h.slot v q a b);
    check = λ c q a b.
        by-pick
        (λ y. length y ≡ check_bytes)
        (eqb (c / 3) (u / 4) && eqb q r && eqb (s.cstate c) 1)
        (patched (c % 3) (u % 4) (take key_bytes x) (add_body (drop key_bytes (s.slot u r)) (drop key_bytes x)) (s.check c q))
        (s.check c q)
        (λ _. length_follow (c % 3) (u % 4) (s.slot u r) x (s.check c q) (omega arith) (h.slot u r hu hr) hx (h.check c q a b))
        (λ _. h.check c q a b);
  }

  pub written_same : (t : Store) → Same s t → u < 16 → r < t.size → Same (written s u r x) (written t u r x)
  unfolding written
  written_same t h hu hr = record {
    front = h.front;
    size = h.size;
    dstate = h.dstate;
    cstate = h.cstate;
    slot = λ v q l m. rw (h.slot v q l m);
    check = λ c q l m. rw (h.slot u r hu hr, h.check c q l m, h.cstate c l);
    rest = h.rest;
  }
