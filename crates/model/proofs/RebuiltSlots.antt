-- The slots of a group at a rank that can be rebuilt, in any sound store: the rebuilt fields have, by the matrix, what the four members used hold
-- (`fields_held`), and a slot is its own or its listed key and its field (`whole_slot_lem`). Assumes that the store holds bytes.
use Prim.Native.Nat.{ℕ, ◌+◌, ◌*◌, ◌-◌, ◌/◌, ◌%◌, ◌≤◌, ◌<◌}
use mathlib.Core.Path.{◌≡◌, refl, sym, ap, ap₂, ◌∙◌}
use mathlib.Core.List.{List, ◌++◌}
use mathlib.Core.Bool.{true, false, not, ◌&&◌}
use native.Mathlib.Omega.{arith}
use lib.Dec.{eqb, ltb}
use lib.ListN.{length, drop, get_or, length-append, length-drop, take-append-drop}
use lib.Seq.{get_or-drop}
use borrow.Author.Tests.{eqb-true, eq-eqb, ne_eqb, ltb-true, ltb-false, lt-ltb}
use Rattle.buffer.specs.Choice.{pick}
use Rattle.buffer.specs.ChoiceLaws.{by-test, by-pick, pick_true, pick-false}
use Rattle.buffer.specs.TestLaws.{and_false_first, and_false_second}
use Rattle.buffer.specs.Range.{count}
use Rattle.buffer.specs.Bytes.{byte, zeros}
use Rattle.group.specs.Widths.{key_bytes, field_bytes, slot_bytes, keys_bytes, check_bytes}
use Rattle.group.specs.Body.{IsBody}
use Rattle.group.specs.Members.{first_four}
use Rattle.group.specs.MembersLaws.{first_four_lem, serves_data}
use Rattle.group.specs.Rebuilding.{rebuilt}
use Rattle.group.proofs.RebuildingLaws.{rebuilt_is, rebuilt_has, rebuilt_own}
use Rattle.model.specs.Layout.{Store, view, slot_at, check_at, key_of}
use Rattle.model.specs.Reads.{listed_key, listed_fill, missing_in, serves_in, holds, whole_slot, rebuildable_in, keys_lost_in}
use Rattle.model.proofs.ReadLaws.{listed_some, own_bytes, whole_own}
use Rattle.model.proofs.LossLaws.{missing_out, out_missing, first_check_found, four_serve, whole_kept}
use Rattle.model.specs.Sound.{sound}
use Rattle.model.proofs.SoundSays.{zero_slot, listed_past}
use Rattle.model.specs.Recovered.{HeldFields}
use Rattle.model.specs.history.Typed.{Bytes}
use Rattle.model.proofs.history.alike.LedgerOf.{bytes_part}
use Rattle.model.proofs.history.alike.Repaired.{length_listed}
use Rattle.model.proofs.Left.{shaped}

-- what stands behind the first k bytes is a field
field_is : (n k : ℕ) (x : List ℕ) → length x ≡ k + n → Bytes x → IsBody n (drop k x)
field_is n k x e b = record { size = simp length-drop (omega arith); bytes = λ i. rw (get_or-drop k x i 0) (b (k + i)) }

-- ---- a group at a rank that can be rebuilt

-- of a sound store
pub record Rebuildable (s : List ℕ) (g r : ℕ) : Type 0 where
  pub bytes : Bytes s
  pub ok : sound s ≡ true
  pub group : g < 4
  pub rank : r < (view s).size
  pub near : rebuildable_in (view s) g r ≡ true

module _ {s : List ℕ} {g r : ℕ} (h : Rebuildable s g r) where
  abbrev pub v : Store
  v = view s

  enough : 4 ≤ count 7 (serves_in v g r)
  enough = four_serve v g r h.near

  holds_is : (m : ℕ) → m < 7 → IsBody field_bytes (holds v g r m)
  unfolding holds view
  holds_is m l =
      let u : ℕ = 4 * g + m in
      let c : ℕ = 3 * g + (m - 4) in
      by-pick (IsBody field_bytes) (ltb m 4) (drop key_bytes (v.slot u r)) (drop keys_bytes (v.check c r))
      (λ e.
      field_is field_bytes key_bytes (v.slot u r) ((shaped s h.ok).slot u r (omega (arith, h.group, ltb-true m 4 e)) h.rank)
      (bytes_part (slot_at (byte s 5) u r) slot_bytes s h.bytes))
      (λ e.
      field_is field_bytes keys_bytes (v.check c r) ((shaped s h.ok).check c r (omega (arith, h.group, ltb-false m 4 e)) h.rank)
      (bytes_part (check_at (byte s 5) c r) check_bytes s h.bytes))

  used_is : (i : ℕ) → i < 4 → IsBody field_bytes (holds v g r (get_or (first_four (serves_in v g r)) i 0))
  used_is i l = holds_is (get_or (first_four (serves_in v g r)) i 0) ((first_four_lem (serves_in v g r) enough).low i l)

  -- the rebuilt fields
  pub fields_held : HeldFields v g r (rebuilt (serves_in v g r) (holds v g r))
  fields_held = record {
    fields = rebuilt_is field_bytes (serves_in v g r) (holds v g r) enough used_is;
    held = rebuilt_has field_bytes (serves_in v g r) (holds v g r) enough used_is;
  }

  field_own : (p : ℕ) → p < 4 → missing_in v (4 * g + p) r ≡ false → rebuilt (serves_in v g r) (holds v g r) p ≡ drop key_bytes (v.slot (4 * g + p) r)
  unfolding serves_in holds
  field_own p l e =
      rebuilt_own field_bytes (serves_in v g r) (holds v g r) enough used_is p l
      (serves_data (λ p. missing_in v (4 * g + p) r) (λ j. v.cstate (3 * g + j)) p l ∙ ap not e)
      ∙ pick_true (lt-ltb p 4 l) (drop key_bytes (v.slot (4 * g + p) r)) (drop keys_bytes (v.check (3 * g + (p - 4)) r))

-- ---- a slot of a unit of such a group

module _ {s : List ℕ} {r : ℕ} (u : ℕ) (h : Rebuildable s (u / 4) r) where
  abbrev pub w : Store
  w = view s

  abbrev pub key : List ℕ
  key = listed_key (view s) u r

  abbrev pub field : List ℕ
  field = rebuilt (serves_in (view s) (u / 4) r) (holds (view s) (u / 4) r) (u % 4)

  pub field_long : length field ≡ field_bytes
  field_long = ((fields_held h).fields (u % 4) (omega arith)).size

  -- of a unit that is not out: as it stands it is its key and its field
  slot_own : eqb (w.dstate u) 2 ≡ false → w.slot u r ≡ key ++ field
  unfolding missing_in
  slot_own e =
      let place : 4 * (u / 4) + u % 4 ≡ u = omega arith in
      sym (ap₂ (λ (x y : List ℕ). x ++ y) (own_bytes w u e r)
      (field_own h (u % 4) (omega arith) (ap (λ n. missing_in w n r) place ∙ and_false_first e _) ∙ ap (λ n. drop key_bytes (w.slot n r)) place)
      ∙ take-append-drop key_bytes (w.slot u r))

  -- of a record that is missing: the listed key and the rebuilt field
  pub whole_missing : missing_in w u r ≡ true → whole_slot w u r ≡ key ++ field
  unfolding whole_slot
  whole_missing m = pick_true m (key ++ field) (w.slot u r)

  -- where the keys of the unit are not lost
  module _ (kept : keys_lost_in (view s) u ≡ false) where
    pub key_long : missing_in w u r ≡ true → length key ≡ key_bytes
    key_long m =
        let out : eqb (w.dstate u) 2 ≡ true = missing_out w u r m in
        length_listed w (shaped s h.ok) u r (omega (arith, h.group, first_check_found w u kept out)) h.rank out

    pub whole_long : missing_in w u r ≡ true → length (whole_slot w u r) ≡ slot_bytes
    whole_long m = ap length (whole_missing m) ∙ length-append key field ∙ omega (arith, key_long m, field_long)

    -- a unit out that has no record there: no key is listed, and the slot is zero
    whole_none : eqb (w.dstate u) 2 ≡ true → ltb r (listed_fill w u) ≡ false → whole_slot w u r ≡ pick (eqb (key_of key) 0) (zeros slot_bytes) (key ++ field)
    unfolding missing_in
    whole_none out none =
        let low : u < 16 = omega (arith, h.group) in
        let off : eqb (w.dstate u) 1 ≡ false = ap (λ n. eqb n 1) (eqb-true (w.dstate u) 2 out) in
        whole_kept w u r (and_false_second (eqb (w.dstate u) 2) none)
        ∙ zero_slot s h.ok u r low h.rank (and_false_first off _)
        ∙ sym (pick_true (eq-eqb (key_of key) 0 (listed_past s h.ok u low kept r h.rank none)) (zeros slot_bytes) (key ++ field))

    pub whole_slot_lem : whole_slot w u r ≡ pick (eqb (w.dstate u) 2 && eqb (key_of key) 0) (zeros slot_bytes) (key ++ field)
    whole_slot_lem =
        by-test (λ t. eqb (w.dstate u) 2 ≡ t → whole_slot w u r ≡ pick (t && eqb (key_of key) 0) (zeros slot_bytes) (key ++ field)) (eqb (w.dstate u) 2)
        (λ _ out. by-test (λ _. whole_slot w u r ≡ pick (eqb (key_of key) 0) (zeros slot_bytes) (key ++ field)) (ltb r (listed_fill w u))
        (λ e.
        let l : r < listed_fill w u = ltb-true r (listed_fill w u) e in
        whole_missing (out_missing w u r out l) ∙ sym (pick-false (ne_eqb (key_of key) 0 (listed_some w u r l)) (zeros slot_bytes) (key ++ field)))
        (whole_none out))
        (λ _ own. whole_own w u own r ∙ slot_own own ∙ sym (pick-false refl (zeros slot_bytes) (key ++ field)))
        refl
