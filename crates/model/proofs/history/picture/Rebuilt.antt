-- Rebuilding on a picture: the slot of a unit in service, or of a unit out at a rank that can be rebuilt, is its record's bytes.
use Prim.Native.Nat.{ℕ, ◌+◌, ◌*◌, ◌-◌, ◌/◌, ◌%◌, ◌<◌}
use mathlib.Core.Path.{◌≡◌, sym, ap, ap₂, ◌∙◌}
use mathlib.Core.List.{List, ◌++◌}
use mathlib.Core.Bool.{true, false, not}
use native.Mathlib.Omega.{arith}
use lib.Dec.{eqb}
use lib.ListN.{drop}
use borrow.Author.Tests.{lt-ltb, le-ltb, not-true}
use Rattle.buffer.specs.ChoiceLaws.{by-pick, pick_true, pick-false}
use Rattle.buffer.specs.TestLaws.{and_first}
use Rattle.group.specs.Widths.{key_bytes, field_bytes, keys_bytes}
use Rattle.group.specs.MembersLaws.{serves_data, serves_check}
use Rattle.group.specs.Parity.{parity}
use Rattle.group.specs.Rebuilding.{rebuilt}
use Rattle.group.proofs.RebuildingLaws.{rebuilds}
use Rattle.model.specs.Layout.{Store, view}
use Rattle.model.specs.LayoutLaws.{Same}
use Rattle.model.specs.Reads.{listed_key, missing_in, serves_in, holds, whole_slot}
use Rattle.model.proofs.LossLaws.{four_serve}
use Rattle.model.specs.history.Ledger.{Ledger, record_at, is_out, state, missing_of, rebuildable_of, keys_lost_of, beyond_of}
use Rattle.model.specs.history.Picture.{record_bytes, image, picture}
use Rattle.model.proofs.history.ledger.Valid.{Valid}
use Rattle.model.proofs.history.picture.Records.{drop_record, parity_over}
use Rattle.model.proofs.history.picture.Picture.{seen}
use Rattle.model.proofs.history.picture.Seen.{cstate_is}
use Rattle.model.proofs.history.picture.Listed.{Kept, check_kept, key_kept}
use Rattle.model.proofs.history.picture.Losses.{slot_present, near_keys, near_rank, known, missing_seen, places_seen, rebuildable_seen, all_known}

-- the slot of a unit at a rank can be read: its keys are known, and where its record is missing the rank can be rebuilt
pub record Readable (l : Ledger) (u r : ℕ) : Type 0 where
  pub keys : keys_lost_of l u ≡ false
  pub rank : missing_of l u r ≡ true → rebuildable_of l (u / 4) r ≡ true

-- so can all slots of a group that is not beyond recovery
pub near : (l : Ledger) (u r : ℕ) → beyond_of l (u / 4) ≡ false → r < l.size → Readable l u r
near l u r nb a = record { keys = near_keys l u nb; rank = λ _. near_rank l u nb r a }

module _ (l : Ledger) (rest : List ℕ) (h : Valid l) where
  abbrev v : Store
  v = view (picture l rest)

  s : Same (view (picture l rest)) (image l rest)
  s = seen l rest h.good

  -- ---- the members of a group with a check unit in service, at a rank that can be rebuilt

  module _ (g : ℕ) (hg : g < 4) (kept : Kept l rest h g) (r : ℕ) (hr : r < l.size) (ok : rebuildable_of l g r ≡ true) where
    serving_data : (p : ℕ) → p < 4 → serves_in v g r p ≡ not (missing_of l (4 * g + p) r)
    unfolding serves_in
    serving_data p a =
        serves_data (λ p. missing_in v (4 * g + p) r) (λ j. v.cstate (3 * g + j)) p a
        ∙ ap not (places_seen l rest h g hg (all_known l rest h g kept) r p a)

    serving_check : (j : ℕ) → j < 3 → serves_in v g r (4 + j) ≡ eqb (state l (16 + (3 * g + j))) 1
    unfolding serves_in
    serving_check j a =
        serves_check (λ p. missing_in v (4 * g + p) r) (λ j. v.cstate (3 * g + j)) j ∙ ap (λ (n : ℕ). eqb n 1) (cstate_is l rest h (3 * g + j) (omega arith))

    fields : ℕ → List ℕ
    fields p = (record_at l (4 * g + p) r).field

    holds_data : (p : ℕ) → p < 4 → serves_in v g r p ≡ true → holds v g r p ≡ fields p
    unfolding holds fields image
    holds_data p a e =
        pick_true (lt-ltb p 4 a) _ _
        ∙ ap (drop key_bytes) (s.slot (4 * g + p) r (omega arith) hr
        ∙ slot_present l h (4 * g + p) r (omega arith) (not-true (missing_of l (4 * g + p) r) (sym (serving_data p a) ∙ e)))
        ∙ drop_record (record_at l (4 * g + p) r)

    holds_check : (j : ℕ) → j < 3 → serves_in v g r (4 + j) ≡ true → holds v g r (4 + j) ≡ parity j fields
    unfolding holds fields
    holds_check j a e =
        let d : 3 * g + (4 + j - 4) ≡ 3 * g + j = omega arith in
        pick-false (le-ltb (4 + j) 4 (omega arith)) _ _
        ∙ ap (λ (n : ℕ). drop keys_bytes (v.check n r)) d
        ∙ ap (drop keys_bytes) (check_kept l rest h g hg r hr j a (sym (serving_check j a) ∙ e))
        ∙ parity_over j (λ p. record_at l (4 * g + p) r)

    field_rebuilt : (p : ℕ) → p < 4 → rebuilt (serves_in v g r) (holds v g r) p ≡ (record_at l (4 * g + p) r).field
    unfolding fields
    field_rebuilt p a =
        rebuilds field_bytes (serves_in v g r) (holds v g r) fields (λ q i. (h.good (4 * g + q) r).field) holds_data holds_check
        (four_serve v g r (rebuildable_seen l rest h g hg (all_known l rest h g kept) r ∙ ok)) p a

  -- ---- a slot that can be read

  module _ (u : ℕ) (hu : u < 16) (r : ℕ) (hr : r < l.size) (ok : Readable l u r) where
    listed : is_out l u ≡ true → Kept l rest h (u / 4)
    listed = known l rest h u hu ok.keys

    whole_missing : missing_of l u r ≡ true → listed_key v u r ++ rebuilt (serves_in v (u / 4) r) (holds v (u / 4) r) (u % 4) ≡ record_bytes (record_at l u r)
    unfolding record_bytes
    whole_missing e =
        let g : ℕ = u / 4 in
        let d : 4 * g + u % 4 ≡ u = omega arith in
        ap₂ (λ (x y : List ℕ). x ++ y) (key_kept l rest h u hu listed r hr)
        (field_rebuilt g (omega arith) (listed (unfold missing_of in and_first (is_out l u) _ e)) r hr (ok.rank e) (u % 4) (omega arith)
        ∙ ap (λ (n : ℕ). (record_at l n r).field) d)

    pub whole_slot_lem : whole_slot v u r ≡ record_bytes (record_at l u r)
    unfolding whole_slot image
    whole_slot_lem = rw (missing_seen l rest h u hu listed r)
        (by-pick (λ (x : List ℕ). x ≡ record_bytes (record_at l u r)) (missing_of l u r) _ _ whole_missing
        (λ e. s.slot u r hu hr ∙ slot_present l h u r hu e))
