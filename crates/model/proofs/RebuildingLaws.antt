-- Slots may be rebuilt one by one in place: while only slots whose records are missing have changed, the same records count as missing, the same members
-- serve, and a slot is rebuilt as from the store at the start (`whole_same`).
use Rattle.std.specs.Prelude.{ℕ, ◌+◌, ◌*◌, ◌-◌, ◌/◌, ◌%◌, ◌<◌, ◌≡◌, true, ltb, drop}
use Rattle.std.proofs.Math.Path.{sym, ap}
use Rattle.std.proofs.Common.{ap₂, ◌∙◌, arith}
use mathlib.Core.List.{List, ◌++◌}
use Rattle.std.proofs.Math.Bool.{false}
use borrow.Author.Tests.{ltb-true, ltb-false, not-true}
use Rattle.buffer.specs.ChoiceLaws.{by-test, pick_true, pick-ext}
use Rattle.buffer.specs.Bytes.{part}
use Rattle.group.specs.Widths.{key_bytes, keys_bytes}
use Rattle.group.specs.MembersLaws.{serves_data, serves_ext}
use Rattle.group.proofs.RebuildingLaws.{rebuilt_ext}
use Rattle.model.specs.Layout.{Store}
use Rattle.model.specs.Reads.{missing_in, serves_in, holds, whole_slot, keys_lost_in, beyond_in}
use Rattle.model.proofs.LossLaws.{missing_out, keys_kept, unit_keys_kept, four_serve, rank_kept, whole_kept}
use Rattle.model.proofs.SameLosses.{SameLists, states_same, key_same, missing_same}

-- w is v with other slots where records are missing
pub record Rebuilding (v w : Store) : Type 0 where
  pub size : w.size ≡ v.size
  pub dstate : (u : ℕ) → u < 16 → w.dstate u ≡ v.dstate u
  pub cstate : (c : ℕ) → c < 12 → w.cstate c ≡ v.cstate c
  pub slot : (u r : ℕ) → u < 16 → r < v.size → missing_in v u r ≡ false → w.slot u r ≡ v.slot u r
  pub check : (c r : ℕ) → c < 12 → r < v.size → w.check c r ≡ v.check c r

pub same_lists : {v w : Store} → Rebuilding v w → SameLists v w
same_lists h = record { size = h.size; dstate = h.dstate; cstate = h.cstate; listed = λ c r l m p _. ap (part (key_bytes * p) key_bytes) (h.check c r l m) }

module _ (v w : Store) (h : Rebuilding v w) (g : ℕ) (hg : g < 4) (nb : beyond_in v g ≡ false) where
  -- who serves
  pub serves_same : (r m : ℕ) → m < 7 → serves_in w g r m ≡ serves_in v g r m
  unfolding serves_in
  serves_same r =
      serves_ext _ _ _ _ (λ p l. missing_same v w (same_lists h) (4 * g + p) (omega arith) (keys_kept v g nb p l) r) (states_same v w (same_lists h) g hg)

  -- and what those who serve hold
  pub holds_same : (r m : ℕ) → r < v.size → m < 7 → serves_in v g r m ≡ true → holds w g r m ≡ holds v g r m
  unfolding holds serves_in
  holds_same r m l q on =
      pick-ext (ltb m 4) _ _ _ _
      (λ t.
      let low : m < 4 = ltb-true m 4 t in
      let there : missing_in v (4 * g + m) r ≡ false =
      not-true _ (sym (serves_data (λ p. missing_in v (4 * g + p) r) (λ j. v.cstate (3 * g + j)) m low) ∙ on) in
      ap (drop key_bytes) (h.slot (4 * g + m) r (omega arith) l there))
      (λ t. ap (drop keys_bytes) (h.check (3 * g + (m - 4)) r (omega (arith, ltb-false m 4 t)) l))

  -- A slot is rebuilt from the store as it stands as from the store at the start; and where its record is not missing, it stands as it did.
  module _ (u r : ℕ) (hu : u < 16) (d : u / 4 ≡ g) (l : r < v.size) where
    kept : keys_lost_in v u ≡ false
    kept = unit_keys_kept v u (ap (beyond_in v) d ∙ nb)

    still : missing_in w u r ≡ missing_in v u r
    still = missing_same v w (same_lists h) u hu kept r

    rebuilding_same : missing_in v u r ≡ true → whole_slot w u r ≡ whole_slot v u r
    unfolding whole_slot
    rebuilding_same m =
        pick_true (still ∙ m) _ (w.slot u r)
        ∙ rw d (ap₂ (λ (x y : List ℕ). x ++ y) (key_same v w (same_lists h) u hu kept (missing_out v u r m) r l)
        (sym (rebuilt_ext (serves_in v g r) (serves_in w g r) (holds v g r) (holds w g r) (four_serve v g r (rank_kept v g nb r l))
        (λ k q. sym (serves_same r k q)) (λ k q on. sym (holds_same r k l q on)) (u % 4))))
        ∙ sym (pick_true m _ (v.slot u r))

    pub whole_same : whole_slot w u r ≡ whole_slot v u r
    whole_same =
        by-test (λ _. whole_slot w u r ≡ whole_slot v u r) (missing_in v u r) rebuilding_same
        (λ m. whole_kept w u r (still ∙ m) ∙ h.slot u r hu l m ∙ sym (whole_kept v u r m))
