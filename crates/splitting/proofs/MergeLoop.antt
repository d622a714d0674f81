-- The loop of `merge_into`: the first t records of unit m stand behind those of unit n.
use Prim.Native.Nat.{ℕ, suc, ◌+◌, ◌≤◌, ◌<◌}
use mathlib.Core.Path.{◌≡◌, refl, sym, ap, ◌∙◌}
use mathlib.Core.List.{List, ◌++◌}
use mathlib.Core.Bool.{Bool, true, false, ◌&&◌}
use native.Mathlib.Omega.{arith}
use native.Mathlib.Numerals.{add-one}
use lib.Dec.{eqb, leb}
use lib.ListN.{length, get_or, length-append}
use borrow.Author.Tests.{ne_eqb, eqb-true, le-leb}
use Rattle.buffer.specs.Choice.{pick}
use Rattle.buffer.specs.ChoiceLaws.{by-pick, pick-false}
use Rattle.buffer.specs.Bytes.{byte, zeros, splice}
use Rattle.group.specs.Widths.{slot_bytes}
use Rattle.model.specs.Layout.{Store, bytes, view, slot_at}
use Rattle.model.specs.Places.{SlotIn, data_units}
use Rattle.model.specs.Parts.{with_slots}
use Rattle.model.specs.LayoutLaws.{Shaped, bytes_ext, view_bytes, view_shaped}
use Rattle.model.specs.RunLaws.{upd2}
use Rattle.model.specs.StoreLaws.{size_of, size_at, chunk_put, chunks_again, chunks_ext, chunks_same, chunks_shaped, chunks_there}
use Rattle.model.specs.Reads.{fill_in}
use Rattle.model.specs.Changes.{rows, records_in, merged}
use Rattle.splitting.specs.Steps.{Split, cleared}
use Rattle.splitting.proofs.Lists.{get_or_snoc, get_d_default, length_rows, rows_self, behind_none, behind_more, behind_holds}
use Rattle.encoding.specs.Holding.{Holds, holds_step, holds_five, holds_long, holds_length}
use Rattle.splitting.proofs.StepLaws.{cleared_change}

-- the records of unit n with the first t of unit m behind them
abbrev joined : Store → ℕ → ℕ → ℕ → List (List ℕ)
joined v n m t = rows (fill_in v n) (v.slot n) ++ rows t (v.slot m)

length_joined : (v : Store) (n m t : ℕ) → length (joined v n m t) ≡ fill_in v n + t
length_joined v n m t =
    length-append (rows (fill_in v n) (v.slot n)) (rows t (v.slot m)) ∙ rw (length_rows (fill_in v n) (v.slot n), length_rows t (v.slot m))

unfoldable pub merging : Store → ℕ → ℕ → ℕ → ℕ → ℕ → List ℕ
merging v n m t u r = pick (eqb u n) (get_or (joined v n m t) r (v.slot n r)) (v.slot u r)

module _ (v : Store) (n m : ℕ) (apart : n ≡ m → ⊥) where
  merging_none : (u r : ℕ) → v.slot u r ≡ merging v n m 0 u r
  unfolding merging
  merging_none u r =
      by-pick (λ x. v.slot u r ≡ x) (eqb u n) _ _
      (λ e. ap (λ k. v.slot k r) (eqb-true u n e)
      ∙ sym (ap (λ l. get_or l r (v.slot n r)) (behind_none (rows (fill_in v n) (v.slot n)) (v.slot m)) ∙ rows_self (fill_in v n) (v.slot n) r))
      (λ e. refl)

  merging_next : (t r : ℕ) → merging v n m t m r ≡ v.slot m r
  unfolding merging
  merging_next t r = pick-false (ne_eqb m n (λ e. apart (sym e))) _ _

  merging_more : (t u r : ℕ) → upd2 (merging v n m t) n (fill_in v n + t) (v.slot m t) u r ≡ merging v n m (suc t) u r
  unfolding merging upd2 pick
  merging_more t u r =
      rw (behind_more (rows (fill_in v n) (v.slot n)) t (v.slot m), get_or_snoc (joined v n m t) (v.slot m t) (v.slot n r) r, length_joined v n m t)
      (go (eqb u n) (eqb r (fill_in v n + t)) (v.slot m t) (get_or (joined v n m t) r (v.slot n r)) (v.slot u r))
    where
      go : (a b : Bool) (x y z : List ℕ) → pick (a && b) x (pick a y z) ≡ pick a (pick b x y) z
      go true b x y z = refl
      go false b x y z = refl

  merging_long : (t : ℕ) → Shaped v → n < 16 → m < 16 → fill_in v n ≤ v.size → t ≤ v.size → (u r : ℕ) → u < 16 → r < v.size
      → length (merging v n m t u r) ≡ slot_bytes
  unfolding merging
  merging_long t h hn hm hf ht u r a b =
      by-pick
      (λ (x : List ℕ). length x ≡ slot_bytes)
      (eqb u n)
      _
      _
      (λ _.
      behind_holds (λ x. length x ≡ slot_bytes) (rows (fill_in v n) (v.slot n)) t (v.slot m) (λ k l. h.slot m k hm (omega arith)) r (v.slot n r)
      (ap length (rows_self (fill_in v n) (v.slot n) r) ∙ h.slot n r hn b))
      (λ _. h.slot u r a b)

  -- unit n is emptied behind the joined records, and unit m is emptied
  merging_cleared : (t u r : ℕ)
      → pick (eqb u m && leb 0 r) (zeros slot_bytes) (pick (eqb u n && leb (fill_in v n + t) r) (zeros slot_bytes) (merging v n m t u r))
      ≡ pick (eqb u m) (zeros slot_bytes) (pick (eqb u n) (get_or (joined v n m t) r (zeros slot_bytes)) (v.slot u r))
  unfolding merging pick
  merging_cleared t u r = rw (le-leb 0 r (omega arith), ← length_joined v n m t) (go (eqb u m) (eqb u n))
    where
      go : (a b : Bool)
          → pick (a && true) (zeros slot_bytes) (pick (b && leb (length (joined v n m t)) r) (zeros slot_bytes)
          (pick b (get_or (joined v n m t) r (v.slot n r)) (v.slot u r)))
          ≡ pick a (zeros slot_bytes) (pick b (get_or (joined v n m t) r (zeros slot_bytes)) (v.slot u r))
      go true b = refl
      go false true = get_d_default (joined v n m t) (v.slot n r) (zeros slot_bytes) r
      go false false = refl

-- ---- the loop
pub record Merging (s₀ : List ℕ) (n m more : ℕ) (s : List ℕ) (t : ℕ) : Type 0 where
  pub within : t ≤ more
  pub long : length s ≡ length s₀
  pub five : byte s 5 ≡ byte s₀ 5
  pub holds : Holds s₀ s (with_slots (view s₀) (merging (view s₀) n m t))

module _ (s₀ : List ℕ) (n m count more : ℕ) (sp : Split s₀ n m) (ec : count ≡ fill_in (view s₀) n) (em : more ≡ fill_in (view s₀) m)
    (room : count + more ≤ byte s₀ 5) where
  apart : n ≡ m → ⊥
  apart e = omega (arith, sp.apart)

  merged_so_far : (s : List ℕ) (t : ℕ) → t ≤ more → s ≡ bytes (with_slots (view s₀) (merging (view s₀) n m t)) → Merging s₀ n m more s t
  merged_so_far s t w e =
      let shaped : Shaped (with_slots (view s₀) (merging (view s₀) n m t)) =
      chunks_shaped data_units (view s₀) _ (view_shaped s₀ sp.sized.long)
      (merging_long (view s₀) n m apart t (view_shaped s₀ sp.sized.long) (omega (arith, sp.apart, sp.unit))
      sp.unit (omega (arith, size_of s₀)) (omega (arith, size_of s₀))) in
      let h : Holds s₀ s (with_slots (view s₀) (merging (view s₀) n m t)) =
      unfold with_slots in record { shaped = shaped; size = refl; rest = refl; state = e } in
      record { within = w; long = holds_length h sp.sized.long; five = holds_five h; holds = h }

  pub merging_start : Merging s₀ n m more s₀ 0
  merging_start =
      merged_so_far s₀ 0 (omega arith)
      (chunks_same data_units s₀ _ sp.sized.long (λ u r a b. merging_none (view s₀) n m apart u r))

  module _ {s : List ℕ} {t : ℕ} (d : Merging s₀ n m more s t) (ht : t < more) where
    next : (view s).slot m t ≡ (view s₀).slot m t
    next =
        let h : Holds s₀ s (with_slots (view s₀) (merging (view s₀) n m t)) = d.holds in
        let size : (with_slots (view s₀) (merging (view s₀) n m t)).size ≡ byte s₀ 5 = h.size ∙ sym (size_of s₀) in
        ap (λ x. (view x).slot m t) h.state
        ∙ (view_bytes _ h.shaped).slot m t sp.unit (omega arith)
        ∙ ap (λ f. f m t) (chunks_there data_units (view s₀) (merging (view s₀) n m t))
        ∙ merging_next (view s₀) n m apart t t

    pub merging_turn : {s' : List ℕ} → s' ≡ splice (slot_at (byte s 5) n (count + t)) slot_bytes ((view s).slot m t) s → Merging s₀ n m more s' (t + 1)
    merging_turn {s'} e =
        let h : Holds s₀ s (with_slots (view s₀) (merging (view s₀) n m t)) = d.holds in
        rw (add-one t)
        (merged_so_far s' (suc t) ht
        (chunk_put data_units _ h.shaped s h.state (byte s 5) (size_at _ h.shaped s h.state) s' ((view s₀).slot m t)
        (slot_at (byte s 5) n (count + t)) n (count + t) refl (omega (arith, sp.apart, sp.unit)) (omega (arith, d.five))
        (e ∙ ap (λ x. splice (slot_at (byte s 5) n (count + t)) slot_bytes x s) next)
        ∙ ap bytes (chunks_again data_units (view s₀) (merging (view s₀) n m t) n (count + t) ((view s₀).slot m t))
        ∙ rw ec (chunks_ext data_units (view s₀) _ _ (λ u r a b. merging_more (view s₀) n m apart t u r))))

    pub merging_from : SlotIn s m t
    merging_from = record { long = holds_long d.holds; unit = sp.unit; rank = omega (arith, d.five) }

    pub merging_to : SlotIn s n (count + t)
    merging_to = record { long = holds_long d.holds; unit = omega (arith, sp.apart, sp.unit); rank = omega (arith, d.five) }

  pub merging_end : {s s₁ s₂ : List ℕ} {t : ℕ} → Merging s₀ n m more s t → more ≤ t
      → s₁ ≡ bytes (cleared (view s) n (count + more)) → s₂ ≡ bytes (cleared (view s₁) m 0) → s₂ ≡ bytes (with_slots (view s₀) (merged (view s₀) m))
  merging_end {s} {s₁} {s₂} {t} d ht e₁ e₂ =
      let all : t ≡ fill_in (view s₀) m = omega (arith, d.within) in
      (holds_step (cleared_change m 0) (holds_step (cleared_change n (count + more)) d.holds e₁) e₂).state
      ∙ rw (ec, em, all) whole
    where
      whole : bytes (cleared (cleared (with_slots (view s₀) (merging (view s₀) n m (fill_in (view s₀) m))) n (fill_in (view s₀) n + fill_in (view s₀) m)) m 0)
          ≡ bytes (with_slots (view s₀) (merged (view s₀) m))
      whole = unfold cleared with_slots merged records_in in
          bytes_ext _ _ (record {
            front = refl;
            size = refl;
            dstate = λ u l. refl;
            cstate = λ u l. refl;
            slot = λ u r a b. rw (← sp.from) (merging_cleared (view s₀) n m apart (fill_in (view s₀) m) u r);
            check = λ u r a b. refl;
            rest = refl;
          })
