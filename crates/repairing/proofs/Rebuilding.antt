-- A data unit that is out is rebuilt rank by rank, where a key is listed for it: what holds at each turn of that loop.
use Prim.Native.Nat.{ℕ, ◌+◌, ◌*◌, ◌/◌, ◌<◌, ◌≤◌}
use mathlib.Core.Path.{◌≡◌, refl, sym, ap, ◌∙◌}
use mathlib.Core.Bool.{false, ◌&&◌}
use mathlib.Core.List.{List}
use native.Mathlib.Omega.{arith}
use native.Mathlib.Nat.{zero-add}
use lib.Dec.{eqb, leb, ltb}
use lib.ListN.{length, get_or}
use Rattle.std.specs.Prelude.{Option, Some, None, IfSome}
use borrow.Author.Tests.{eq-eqb, eqb-true, ltb-true, ltb-false}
use Rattle.buffer.specs.Choice.{pick}
use Rattle.buffer.specs.ChoiceLaws.{by-pick, by-test}
use Rattle.buffer.specs.TestLaws.{and_first}
use Rattle.buffer.specs.Bytes.{byte, splice}
use Rattle.buffer.specs.Table.{tab}
use Rattle.buffer.specs.TableLaws.{Wide, tab_ext}
use Rattle.group.specs.Widths.{slot_bytes}
use Rattle.model.specs.Layout.{Store, bytes, view, slot_at}
use Rattle.model.specs.Places.{data_units}
use Rattle.model.specs.Parts.{with_slots}
use Rattle.model.specs.LayoutLaws.{Shaped, bytes_view, view_shaped, ranks_within}
use Rattle.model.specs.RunLaws.{run, length_run, run_unit, run_past}
use Rattle.model.specs.StoreLaws.{size_of, splice_ranks, chunks_ext}
use Rattle.model.specs.Reads.{listed_fill, missing_in, whole_slot}
use Rattle.model.proofs.ReadLaws.{listed_le}
use Rattle.model.proofs.LossLaws.{none_past, out_missing, whole_kept}
use Rattle.model.proofs.RebuildingLaws.{whole_same}
use Rattle.lookup.specs.Keys.{keys_at}
use Rattle.lookup.specs.Groups.{Counts, Rebuildable}
use Rattle.lookup.specs.declared.decoders.Decoder.{Decoder}
use Rattle.lookup.specs.Decoders.{DecoderOf}
use Rattle.lookup.specs.DecoderLaws.{decoder_now, decoder_then, next_rank}
use Rattle.lookup.specs.GroupLaws.{unit_counted, near_missing}
use Rattle.lookup.specs.SlotLaws.{length_near}
use Rattle.repairing.specs.Groups.{OutUnit}
use Rattle.repairing.specs.Steps.{unit_rebuilt}
use Rattle.repairing.proofs.Ranks.{Writing, writing_start, writing_turn, writing_end}
use Rattle.repairing.proofs.Kept.{Rewritten, rebuilding, keys_kept, missing_kept, counts_kept}

-- ---- s is s₀ with the first t slots of unit u rebuilt
abbrev pub Progress : List ℕ → ℕ → List ℕ → ℕ → Type 0
Progress s₀ u = Writing (whole_slot (view s₀) u) slot_bytes (listed_fill (view s₀) u) (slot_at (view s₀).size u 0) s₀

module _ {s₀ : List ℕ} {u : ℕ} {fills : List ℕ} (h : OutUnit s₀ u fills) where
  abbrev v : Store
  v = view s₀

  shaped : Shaped v
  shaped = view_shaped s₀ h.near.sized.long

  whole : bytes v ≡ s₀
  whole = bytes_view s₀ h.near.sized.long

  out : v.dstate u ≡ 2
  unfolding view
  out = h.out

  -- how many there are, which the code reads at an index i
  pub unit_fill_lem : {i : ℕ} → i ≡ u → get_or fills i 0 ≡ listed_fill (view s₀) u
  unit_fill_lem at = ap (λ (j : ℕ). get_or fills j 0) at ∙ unit_counted u h.counts out

  pub record_missing : (r : ℕ) → r < listed_fill (view s₀) u → Rebuildable s₀ u r
  record_missing r l = near_missing u r h.near.sized h.unit h.near.whole (out_missing v u r (eq-eqb (v.dstate u) 2 out) l)

  long : (r : ℕ) → r < v.size → length (whole_slot v u r) ≡ slot_bytes
  long r l = length_near u r h.near.sized h.unit h.near.whole (rw (size_of s₀) l)

  wide : Wide (listed_fill v u) slot_bytes (whole_slot v u)
  wide r l = long r (omega (arith, l, listed_le v u))

  room : slot_at v.size u 0 + slot_bytes * listed_fill v u ≤ length s₀
  room = ranks_within data_units v.size u 0 (listed_fill v u) (length s₀) h.unit (omega (arith, listed_le v u)) (rw (← size_of s₀) h.near.sized.long)

  -- the bytes with the first t slots, as a store; the others are as they were
  so_far : (t : ℕ) → t ≤ listed_fill v u → splice (slot_at v.size u 0) (slot_bytes * t) (tab t (whole_slot v u)) s₀
      ≡ bytes (with_slots v (run v.slot u 0 t (whole_slot v u)))
  so_far t l =
      ap (splice (slot_at v.size u 0) (slot_bytes * t) (tab t (whole_slot v u))) (sym whole)
      ∙ ap (λ x. splice (slot_at v.size u 0) (slot_bytes * t) x (bytes v)) (tab_ext t _ _ (λ k _. ap (whole_slot v u) (sym (zero-add k))))
      ∙ splice_ranks data_units v shaped u 0 t (whole_slot v u) h.unit (omega (arith, l, listed_le v u))

  run_kept : (t w r : ℕ) → missing_in v w r ≡ false → run v.slot u 0 t (whole_slot v u) w r ≡ v.slot w r
  unfolding run
  run_kept t w r m =
      by-pick (λ x. x ≡ v.slot w r) (eqb w u && (leb 0 r && ltb r (0 + t))) (whole_slot v u r) (v.slot w r)
      (λ e.
      let same : w ≡ u = eqb-true w u (and_first (eqb w u) _ e) in
      ap (λ (n : ℕ). whole_slot v n r) (sym same) ∙ whole_kept v w r m) (λ _. refl)

  module _ {s : List ℕ} {t : ℕ} (m : Progress s₀ u s t) where
    standing : Rewritten s₀ s (run v.slot u 0 t (whole_slot v u))
    standing =
        record {
          long = h.near.sized.long;
          wide = λ w r a b. length_run v.slot u 0 t (whole_slot v u) slot_bytes w r (long r b) (shaped.slot w r a b);
          kept = λ w r _ _. run_kept t w r;
          state = m.state ∙ so_far t m.within;
        }

    -- ---- what the code asks, and hands on, is said of the store as it stands
    pub standing_keys : {keys : ℕ} → keys ≡ keys_at s₀ u → keys ≡ keys_at s u
    standing_keys e = e ∙ sym (keys_kept standing h.unit h.near)

    pub standing_counts : Counts s (u / 4) fills
    standing_counts = counts_kept standing h.near h.counts

    pub standing_missing : t < listed_fill (view s₀) u → Rebuildable s u t
    standing_missing l = missing_kept standing h.unit h.near (record_missing t l)

    pub standing_decoder : (last : Option Decoder) → IfSome last (λ d. t < d.until → DecoderOf s₀ u t d.members d.weights d.until)
        → IfSome last (λ d. t < d.until → DecoderOf s u t d.members d.weights d.until)
    standing_decoder (Some d) f = λ l. decoder_now s₀ s (rebuilding standing) u t h.unit h.near.whole (f l)
    standing_decoder None f = f

    -- of the next rank, in the store at the start
    pub next_decoder : {members weights : List ℕ} {until : ℕ} → DecoderOf s u t members weights until
        → t + 1 < until → DecoderOf s₀ u (t + 1) members weights until
    next_decoder x = next_rank (decoder_then s₀ s (rebuilding standing) u t h.unit h.near.whole x)

    pub rebuilding_turn : {s' z : List ℕ} {at : ℕ} → t < listed_fill (view s₀) u → at ≡ slot_at (byte s₀ 5) u t → z ≡ whole_slot (view s) u t
        → s' ≡ splice at slot_bytes z s → Progress s₀ u s' (t + 1)
    rebuilding_turn l ea ez es =
        let rank : t < v.size = omega (arith, l, listed_le v u) in
        writing_turn wide room m l (rw (← size_of s₀) (ea ∙ omega arith))
        (ez ∙ whole_same v (view s) (rebuilding standing) (u / 4) h.near.group h.near.whole u t h.unit refl rank) es

  pub rebuilding_start : Progress s₀ u s₀ 0
  rebuilding_start = writing_start wide room

  -- at the end: at a rank without a key the slot is whole as it stands
  run_all : (w r : ℕ) → run v.slot u 0 (listed_fill v u) (whole_slot v u) w r ≡ pick (eqb w u) (whole_slot v u r) (v.slot w r)
  run_all w r =
      by-test (λ _. run v.slot u 0 (listed_fill v u) (whole_slot v u) w r ≡ pick (eqb w u) (whole_slot v u r) (v.slot w r)) (ltb r (listed_fill v u))
      (λ e. run_unit v.slot u (listed_fill v u) (whole_slot v u) w r (ltb-true r (listed_fill v u) e))
      (λ e.
      let past : listed_fill v u ≤ r = ltb-false r (listed_fill v u) e in
      run_past v.slot u (listed_fill v u) (whole_slot v u) w r past
      ∙ sym (by-pick (λ x. x ≡ v.slot w r) (eqb w u) (whole_slot v u r) (v.slot w r)
      (λ q. whole_kept v u r (none_past v u r past) ∙ ap (λ (n : ℕ). v.slot n r) (sym (eqb-true w u q))) (λ _. refl)))

  pub rebuilding_end : {s : List ℕ} {t : ℕ} → Progress s₀ u s t → listed_fill (view s₀) u ≤ t → s ≡ bytes (unit_rebuilt (view s₀) u)
  unfolding unit_rebuilt
  rebuilding_end m l = writing_end wide room m l ∙ so_far (listed_fill v u) (omega arith) ∙ chunks_ext data_units v _ _ (λ w r _ _. run_all w r)
