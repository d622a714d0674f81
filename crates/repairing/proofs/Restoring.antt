-- The data units of a group that are out are rebuilt, one after the other: what holds at each turn of that loop.
use Prim.Native.Nat.{ℕ, suc, ◌+◌, ◌*◌, ◌/◌, ◌≤◌, ◌<◌}
use mathlib.Core.Path.{◌≡◌, sym, ap, ap₂, ◌∙◌}
use mathlib.Core.List.{List}
use native.Mathlib.Omega.{arith}
use native.Mathlib.Numerals.{add-one}
use lib.Dec.{eqb}
use lib.ListN.{length}
use borrow.Author.Tests.{eq-eqb, eqb-true}
use Rattle.buffer.specs.Choice.{pick}
use Rattle.buffer.specs.Bytes.{byte}
use Rattle.group.specs.Widths.{slot_bytes}
use Rattle.model.specs.Layout.{Store, bytes, view}
use Rattle.model.specs.Places.{data_units}
use Rattle.model.specs.Parts.{with_slots}
use Rattle.model.specs.LayoutLaws.{Shaped, Same, bytes_ext, view_shaped}
use Rattle.model.specs.StoreLaws.{size_of, chunks_ext, chunks_same, chunks_shaped}
use Rattle.model.specs.Reads.{first_check, whole_slot}
use Rattle.model.proofs.LossLaws.{none_in_service, whole_kept}
use Rattle.model.proofs.RebuildingLaws.{whole_same}
use Rattle.lookup.specs.Groups.{Counts}
use Rattle.lookup.specs.SlotLaws.{length_near}
use Rattle.repairing.specs.Groups.{Repairable, OutUnit}
use Rattle.repairing.specs.Steps.{unit_rebuilt, units_rebuilt}
use Rattle.repairing.proofs.Renewed.{renewed, renewed_none, renewed_more, renewed_own, renewed_off, length_renewed, renewed_by}
use Rattle.repairing.proofs.Kept.{Rewritten, rewritten_seen, long_kept, byte_kept, rebuilding, repairable_kept, counts_kept, first_check_kept}

-- the slots when the units at the first t places are rebuilt
abbrev pub so_far : Store → ℕ → ℕ → ℕ → ℕ → List ℕ
so_far v g t = renewed (whole_slot v) v.slot (4 * g) t

-- at the end, by the group of a unit
so_far_all : (v : Store) (g u r : ℕ) → so_far v g 4 u r ≡ pick (eqb (u / 4) g) (whole_slot v u r) (v.slot u r)
so_far_all v g u r =
    renewed_by (whole_slot v) v.slot (4 * g) 4 (eqb (u / 4) g) u r (λ a b. eq-eqb (u / 4) g (omega arith))
    (λ e. let k = eqb-true (u / 4) g e in (omega arith, omega arith))

pub record Restoring (s₀ : List ℕ) (g : ℕ) (s : List ℕ) (t : ℕ) : Type 0 where
  pub within : t ≤ 4
  pub long : length s ≡ length s₀
  pub state : s ≡ bytes (with_slots (view s₀) (so_far (view s₀) g t))

module _ {s₀ : List ℕ} {g : ℕ} (h : Repairable s₀ g) where
  abbrev v : Store
  v = view s₀

  wide : (t : ℕ) → t ≤ 4 → (u r : ℕ) → u < 16 → r < v.size → length (so_far v g t u r) ≡ slot_bytes
  wide t l u r a b =
      length_renewed (whole_slot v) v.slot (4 * g) slot_bytes t u r (λ c d.
      let e : u / 4 ≡ g = omega arith in
      length_near u r h.sized a (rw e h.whole) (rw (size_of s₀) b))
      ((view_shaped s₀ h.sized.long).slot u r a b)

  pub restored_shaped : Shaped (units_rebuilt (view s₀) g)
  unfolding units_rebuilt
  restored_shaped =
      chunks_shaped data_units v _ (view_shaped s₀ h.sized.long) (λ u r a b. ap length (sym (so_far_all v g u r)) ∙ wide 4 (omega arith) u r a b)

  rewritten : {s : List ℕ} (t : ℕ) → t ≤ 4 → s ≡ bytes (with_slots v (so_far v g t)) → Rewritten s₀ s (so_far v g t)
  rewritten {s} t l e =
      record { long = h.sized.long; wide = wide t l; kept = λ u r a b k. renewed_own (whole_slot v) v.slot (4 * g) t u r (whole_kept v u r k); state = e }

  restored : {s : List ℕ} {t : ℕ} → t ≤ 4 → s ≡ bytes (with_slots v (so_far v g t)) → Restoring s₀ g s t
  restored {s} {t} l e = record { within = l; long = long_kept (rewritten t l e); state = e }

  pub restoring_start : Restoring s₀ g s₀ 0
  restoring_start =
      restored (omega arith)
      (chunks_same data_units s₀ (so_far v g 0) h.sized.long (λ u r a b. renewed_none (whole_slot v) v.slot (4 * g) u r))

  module _ {s : List ℕ} {t u : ℕ} (m : Restoring s₀ g s t) (lt : t < 4) (eu : u ≡ 4 * g + t) where
    low : u < 16
    low = let k = h.group in omega arith

    -- the store as it stands
    standing : Rewritten s₀ s (so_far v g t)
    standing = rewritten t m.within m.state

    group : u / 4 ≡ g
    group = omega arith

    -- what the code asks before it rebuilds unit u
    pub restoring_unit : {fills : List ℕ} → Counts s₀ g fills → byte s (8 + u) ≡ 2 → OutUnit s u fills
    restoring_unit counts out =
        record { near = rw group (repairable_kept standing h); unit = low; out = out; counts = rw group (counts_kept standing h counts) }

    pub restoring_first_check : (c : ℕ) → c ≡ first_check (view s₀) g → c ≡ first_check (view s) (u / 4)
    restoring_first_check c e = rw group (e ∙ sym (first_check_kept standing h))

    state_read : byte s (8 + u) ≡ v.dstate u
    unfolding view
    state_read = let l = low in byte_kept standing (8 + u) (omega arith)

    turned : {s' : List ℕ} → s' ≡ bytes (with_slots v (so_far v g (suc t))) → Restoring s₀ g s' (t + 1)
    turned e = restored (omega arith) (e ∙ ap (λ k. bytes (with_slots v (so_far v g k))) (sym (add-one t)))

    -- it is not out
    pub restoring_off : (byte s (8 + u) ≡ 2 → ⊥) → Restoring s₀ g s (t + 1)
    restoring_off n =
        turned
        (m.state
        ∙ chunks_ext data_units v (so_far v g t) (so_far v g (suc t)) (λ w r a b.
        renewed_off (whole_slot v) v.slot (4 * g) t (λ w r e.
        whole_kept v w r (none_in_service v w r (λ k. n (state_read ∙ ap v.dstate (eu ∙ sym e) ∙ k)))) w r))

    -- it is, and was rebuilt from the store as it stood
    pub restoring_on : {s' : List ℕ} → s' ≡ bytes (unit_rebuilt (view s) u) → Restoring s₀ g s' (t + 1)
    restoring_on e =
        let seen : Same (view s) (with_slots v (so_far v g t)) = rewritten_seen standing in
        turned
        (e
        ∙ unfold unit_rebuilt with_slots in bytes_ext _ _ (record {
          front = seen.front;
          size = seen.size;
          dstate = seen.dstate;
          cstate = seen.cstate;
          slot = λ w r a b.
              ap₂ (pick (eqb w u)) (whole_same v (view s) (rebuilding standing) g h.group h.whole u r low group b) (seen.slot w r a b)
              ∙ ap (λ k. pick (eqb w k) (whole_slot v k r) (so_far v g t w r)) eu
              ∙ renewed_more (whole_slot v) v.slot (4 * g) t w r;
          check = seen.check;
          rest = seen.rest;
        }))

  pub restoring_end : {s : List ℕ} {t : ℕ} → Restoring s₀ g s t → 4 ≤ t → s ≡ bytes (units_rebuilt (view s₀) g)
  unfolding units_rebuilt
  restoring_end {s} {t} m l =
      let all : t ≡ 4 = let k = m.within in omega arith in
      m.state ∙ ap (λ k. bytes (with_slots v (so_far v g k))) all ∙ chunks_ext data_units v (so_far v g 4) _ (λ u r a b. so_far_all v g u r)
