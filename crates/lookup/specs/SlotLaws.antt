-- Laws of a slot as it stands, or rebuilt where its record is missing.
use Rattle.std.specs.Prelude.{ℕ, suc, ◌+◌, ◌*◌, ◌-◌, ◌/◌, ◌%◌, ◌≤◌, ◌<◌, ◌≡◌, refl, true, false, eqb, ltb, length, get_or, drop}
use Rattle.std.proofs.Math.Path.{sym, ap}
use Rattle.std.proofs.Common.{◌∙◌, arith, mul-le-mul_left, length-append, take_all, drop_at}
use mathlib.Core.List.{List, ◌++◌}
use Rattle.std.proofs.Math.ListN.{length-take, length-drop}
use borrow.Author.Tests.{eq-eqb, ne_eqb, eqb-true, eqb-false, ltb-true, ltb-false}
use Rattle.buffer.specs.Choice.{pick}
use Rattle.buffer.specs.ChoiceLaws.{by-pick, by-test, pick_true, pick-false}
use Rattle.buffer.specs.RangeLaws.{below-four}
use Rattle.buffer.specs.Bytes.{byte, be32, part}
use Rattle.buffer.specs.SpliceLaws.{length_part, part_part}
use Rattle.buffer.specs.ByteLaws.{be32_left}
use Rattle.buffer.specs.Table.{tab}
use Rattle.buffer.specs.TableLaws.{tab_ext, tab_parts}
use Rattle.code.specs.Matrix.{within}
use Rattle.code.proofs.WeightsLaws.{weights_within}
use Rattle.group.specs.Widths.{key_bytes, keys_bytes, field_bytes, slot_bytes, check_bytes}
use Rattle.group.specs.Rebuilding.{weighed, rebuilt}
use Rattle.group.specs.Four.{four_bodies}
use Rattle.group.proofs.WeighedLaws.{length_weighed, weighed_ext}
use Rattle.model.specs.Layout.{view, slot_at, check_at, key_of}
use Rattle.model.specs.Reads.{serves_in, holds, first_check, listed_key, listed_fill, missing_in, whole_slot, beyond_in}
use Rattle.model.proofs.ReadLaws.{own_key, whole_own}
use Rattle.model.proofs.LossLaws.{whole_kept}
use Rattle.lookup.specs.Sized.{Sized}
use Rattle.lookup.specs.SizedLaws.{slot_fits, check_fits_lem}
use Rattle.lookup.specs.Keys.{Known, Lists, keys_at}
use Rattle.lookup.specs.KeyLaws.{known_check, lists_out, listed_fill_small}
use Rattle.lookup.specs.Groups.{Rebuildable, Readable, Whole}
use Rattle.lookup.specs.GroupLaws.{missing_out, missing_rank, missing_known, missing_four, readable_out, near_missing, whole_readable}
use Rattle.lookup.specs.Decoders.{DecoderOf}
use Rattle.lookup.specs.Slots.{held_at}

-- the end of a part
pub drop_part : (at k n : ℕ) (s : List ℕ) → drop k (part at (k + n) s) ≡ part (at + k) n s
drop_part at k n s =
    let l : length (part at (k + n) s) ≤ k + n = unfold part in simp length-take (omega arith) in
    sym (take_all n (drop k (part at (k + n) s)) (simp length-drop (omega arith)))
    ∙ unfold part in part_part at (k + n) k n s (omega arith)

pub held_part : (s : List ℕ) (g r m : ℕ) → holds (view s) g r m ≡ part (held_at (byte s 5) g r m) field_bytes s
unfolding holds held_at view
held_part s g r m =
    by-pick
    (λ x. x ≡ part (pick (ltb m 4) (slot_at (byte s 5) (4 * g + m) r + key_bytes) (check_at (byte s 5) (3 * g + (m - 4)) r + keys_bytes)) field_bytes s)
    (ltb m 4)
    _
    _
    (λ t. drop_part (slot_at (byte s 5) (4 * g + m) r) key_bytes field_bytes s ∙ ap (λ i. part i field_bytes s) (sym (pick_true t _ _)))
    (λ t. drop_part (check_at (byte s 5) (3 * g + (m - 4)) r) keys_bytes field_bytes s ∙ ap (λ i. part i field_bytes s) (sym (pick-false t _ _)))

pub held_fits : {s : List ℕ} → Sized s → (g r m : ℕ) → g < 4 → r < byte s 5 → m < 7 → held_at (byte s 5) g r m + field_bytes ≤ length s
unfolding held_at
held_fits {s} h g r m l k q =
    by-pick
    (λ at. at + field_bytes ≤ length s)
    (ltb m 4)
    _
    _
    (λ t. let z = ltb-true m 4 t in omega (arith, slot_fits h (4 * g + m) r (omega arith) k))
    (λ t. let z = ltb-false m 4 t in omega (arith, check_fits_lem h (3 * g + (m - 4)) r (omega arith) k))

pub length_holds : {s : List ℕ} → Sized s → (g r m : ℕ) → g < 4 → r < byte s 5 → m < 7 → length (holds (view s) g r m) ≡ field_bytes
length_holds {s} h g r m l k q = ap length (held_part s g r m) ∙ length_part (held_at (byte s 5) g r m) field_bytes s (held_fits h g r m l k q)

-- four fields that were read one by one
pub weighed_held : (ws a b c d : List ℕ) (f : ℕ → List ℕ) → a ≡ f 0 → b ≡ f 1 → c ≡ f 2 → d ≡ f 3 → weighed ws (four_bodies a b c d) ≡ weighed ws f
unfolding four_bodies
weighed_held ws a b c d f p q r t = weighed_ext ws (four_bodies a b c d) f (below-four (λ i. four_bodies a b c d i ≡ f i) p q r t)

-- the key that a check unit lists has its bytes
out_key_long : {s : List ℕ} {u : ℕ} → Known s u → (r : ℕ) → r < byte s 5 → byte s (8 + u) ≡ 2 → length (listed_key (view s) u r) ≡ key_bytes
unfolding listed_key view
out_key_long {s} {u} h r l e =
    let c : ℕ = first_check (view s) (u / 4) in
    ap length (pick_true (eq-eqb (byte s (8 + u)) 2 e) _ _ ∙ part_part (check_at (byte s 5) c r) check_bytes (key_bytes * (u % 4)) key_bytes s (omega arith))
    ∙ length_part (check_at (byte s 5) c r + key_bytes * (u % 4)) key_bytes s (omega (arith, check_fits_lem h.sized c r (known_check h e) l))

-- ---- a record that is missing, by the decoder of its rank
module _ {s : List ℕ} {u r : ℕ} (h : Rebuildable s u r) where
  -- the keys of the unit, from their first on
  pub missing_keys : {keys : ℕ} → keys ≡ keys_at s u → Lists s u keys check_bytes
  missing_keys {keys} e = lists_out (missing_known h) keys (missing_out h) e

  pub missing_key_long : length (listed_key (view s) u r) ≡ key_bytes
  missing_key_long = out_key_long (missing_known h) r (missing_rank h) (missing_out h)

  rebuilt_long : length (rebuilt (serves_in (view s) (u / 4) r) (holds (view s) (u / 4) r) (u % 4)) ≡ field_bytes
  unfolding rebuilt
  rebuilt_long =
      let small : u / 4 < 4 = omega (arith, h.unit) in
      length_weighed field_bytes _ _ (λ i q. length_holds h.sized (u / 4) r _ small (missing_rank h) ((missing_four h).low i q))

  -- key and field, one behind the other
  pub whole_missing : whole_slot (view s) u r ≡ listed_key (view s) u r ++ rebuilt (serves_in (view s) (u / 4) r) (holds (view s) (u / 4) r) (u % 4)
  unfolding whole_slot
  whole_missing = pick_true h.missing _ _

  pub length_missing : length (whole_slot (view s) u r) ≡ slot_bytes
  length_missing = ap length whole_missing ∙ simp length-append (omega (arith, missing_key_long, rebuilt_long))

  module _ {members weights : List ℕ} {until : ℕ} (decoder : DecoderOf s u r members weights until) where
    -- the members are below 7, the weights below 16
    pub decoder_low : (i : ℕ) → i < 4 → get_or members i 0 < 7
    decoder_low i l = rw decoder.four ((missing_four h).low i l)

    pub decoder_small : within 15 weights ≡ true
    decoder_small = rw decoder.weigh (weights_within members (u % 4))

    pub field_rebuilt : weighed weights (λ i. holds (view s) (u / 4) r (get_or members i 0))
        ≡ rebuilt (serves_in (view s) (u / 4) r) (holds (view s) (u / 4) r) (u % 4)
    unfolding rebuilt
    field_rebuilt = rw (decoder.weigh, decoder.four)

-- ---- a slot of a unit in service, as it stands
pub slot_own : (s : List ℕ) (u r : ℕ) → (byte s (8 + u) ≡ 2 → ⊥) → (view s).slot u r ≡ whole_slot (view s) u r
slot_own s u r h = sym (whole_own (view s) u (unfold view in ne_eqb (byte s (8 + u)) 2 h) r)

slot_part : (s : List ℕ) (u r : ℕ) → part (slot_at (byte s 5) u r) slot_bytes s ≡ (view s).slot u r
unfolding view
slot_part s u r = refl

pub length_slot : {s : List ℕ} → Sized s → (u r : ℕ) → u < 16 → r < byte s 5 → length ((view s).slot u r) ≡ slot_bytes
length_slot {s} h u r l k = ap length (sym (slot_part s u r)) ∙ length_part (slot_at (byte s 5) u r) slot_bytes s (slot_fits h u r l k)

-- ---- a slot of a group that is not beyond recovery
pub length_near : {s : List ℕ} (u r : ℕ) → Sized s → u < 16 → beyond_in (view s) (u / 4) ≡ false → r < byte s 5
    → length (whole_slot (view s) u r) ≡ slot_bytes
length_near {s} u r h l near k =
    by-test (λ _. length (whole_slot (view s) u r) ≡ slot_bytes) (missing_in (view s) u r)
    (λ m. length_missing (near_missing u r h l near m)) (λ m. ap length (whole_kept (view s) u r m) ∙ length_slot h u r l k)

-- ---- a record that can be read
module _ {s : List ℕ} {u r : ℕ} (h : Readable s u r) where
  pub length_whole : length (whole_slot (view s) u r) ≡ slot_bytes
  length_whole =
      by-test (λ _. length (whole_slot (view s) u r) ≡ slot_bytes) (eqb (byte s (8 + u)) 2)
      (λ e. length_missing (readable_out h (eqb-true (byte s (8 + u)) 2 e)))
      (λ e. ap length (sym (slot_own s u r (eqb-false (byte s (8 + u)) 2 e)))
      ∙ length_slot h.sized u r h.unit (omega (arith, h.listed, listed_fill_small s u)))

  -- its key is the one that is listed
  pub whole_key : key_of (whole_slot (view s) u r) ≡ key_of (listed_key (view s) u r)
  unfolding key_of
  whole_key =
      by-test (λ _. be32 (whole_slot (view s) u r) 0 ≡ be32 (listed_key (view s) u r) 0) (eqb (byte s (8 + u)) 2)
      (λ e.
      let m : Rebuildable s u r = readable_out h (eqb-true (byte s (8 + u)) 2 e) in
      ap (λ (x : List ℕ). be32 x 0) (whole_missing m) ∙ be32_left (listed_key (view s) u r) _ 0 (omega (arith, missing_key_long m)))
      (λ e. unfold key_of in ap key_of (sym (slot_own s u r (eqb-false (byte s (8 + u)) 2 e))) ∙ sym (own_key (view s) u (unfold view in e) r))

-- the bytes of a record, where every record can be read
pub length_record : {s : List ℕ} → Whole s → (u r : ℕ) → u < 16 → r < listed_fill (view s) u → length (whole_slot (view s) u r) ≡ slot_bytes
length_record h u r l m = length_whole (whole_readable h u l r m)

-- the slots of a unit in service are a part of the store
pub own_slots : (s : List ℕ) (u n : ℕ) → (byte s (8 + u) ≡ 2 → ⊥) → slot_at (byte s 5) u 0 + slot_bytes * n ≤ length s
    → part (slot_at (byte s 5) u 0) (slot_bytes * n) s ≡ tab n (whole_slot (view s) u)
own_slots s u n h l =
    let at : ℕ = slot_at (byte s 5) u 0 in
    sym (tab_parts n slot_bytes (part at (slot_bytes * n) s) (length_part at (slot_bytes * n) s l))
    ∙ tab_ext n _ _ (λ r k.
    let inside : slot_bytes * r + slot_bytes ≤ slot_bytes * n = (let m : slot_bytes * suc r ≤ slot_bytes * n = mul-le-mul_left slot_bytes k in omega arith) in
    let place : at + slot_bytes * r ≡ slot_at (byte s 5) u r = omega arith in
    part_part at (slot_bytes * n) (slot_bytes * r) slot_bytes s inside ∙ ap (λ i. part i slot_bytes s) place ∙ slot_part s u r ∙ slot_own s u r h)

-- ---- the field of a whole slot
pub field_own : (s : List ℕ) (u r : ℕ) → (byte s (8 + u) ≡ 2 → ⊥)
    → part (slot_at (byte s 5) u r + key_bytes) field_bytes s ≡ drop key_bytes (whole_slot (view s) u r)
field_own s u r h = sym (drop_part (slot_at (byte s 5) u r) key_bytes field_bytes s) ∙ ap (drop key_bytes) (slot_part s u r ∙ slot_own s u r h)

pub field_out : {s : List ℕ} {u r : ℕ} (h : Rebuildable s u r) {members weights : List ℕ} {until : ℕ} → DecoderOf s u r members weights until
    → (field : List ℕ) → field ≡ weighed weights (λ i. holds (view s) (u / 4) r (get_or members i 0)) → field ≡ drop key_bytes (whole_slot (view s) u r)
field_out {s} {u} {r} h decoder field e =
    e ∙ field_rebuilt h decoder ∙ sym (drop_at (listed_key (view s) u r) _ key_bytes (missing_key_long h)) ∙ ap (drop key_bytes) (sym (whole_missing h))
