-- Laws of what the soundness test hands on: where the store is sound, it is what the definitions say.
use Rattle.std.specs.Prelude.{ℕ, ◌+◌, ◌*◌, ◌/◌, ◌≤◌, ◌<◌, ◌≡◌, refl, List, Bool, true, false, ltb, get_or}
use Rattle.std.proofs.Math.Path.{sym}
use Rattle.std.proofs.Common.{ap₂, ◌∙◌, arith}
use borrow.Author.Tests.{ne_eqb}
use Rattle.buffer.specs.Choice.{pick}
use Rattle.buffer.specs.ChoiceLaws.{by-pick, pick_true, pick-false}
use Rattle.buffer.specs.Loops.{entries}
use Rattle.buffer.specs.RangeLaws.{get_or_entries}
use Rattle.buffer.specs.Bytes.{byte}
use Rattle.model.specs.Layout.{view}
use Rattle.model.specs.Reads.{fill_in, first_check, outs_in, listed_fill, keys_lost_in}
use Rattle.lookup.specs.Sized.{Sized}
use Rattle.lookup.specs.SizedLaws.{sound_sized}
use Rattle.lookup.specs.KeyLaws.{own_fill, listed_fill_small}
use Rattle.model.proofs.LossLaws.{kept_keys}
use Rattle.lookup.specs.Groups.{CountsKnown}
use Rattle.lookup.specs.GroupLaws.{none_out}
use Rattle.soundness.specs.Survey.{known_fill, Surveyed}

-- ---- what a caller reads of it, at an index i that its code computed
module _ {s : List ℕ} {ok : Bool} {fills first_checks outs : List ℕ} (g : Surveyed s ok fills first_checks outs) where
  -- a unit's ranks are enough for what is counted
  pub fill_most : (u : ℕ) → u < 16 → get_or fills u 0 ≤ byte s 5
  unfolding known_fill
  fill_most u l =
      let most : (n : ℕ) → Type 0 = λ n. n ≤ byte s 5 in
      let listed : most (listed_fill (view s) u) = listed_fill_small s u in
      rw (g.filled, get_or_entries 16 (λ u. pick ok (pick (keys_lost_in (view s) u) 0 (listed_fill (view s) u)) 0) u 0 l)
      (by-pick most ok _ 0 (λ _. by-pick most (keys_lost_in (view s) u) 0 (listed_fill (view s) u) (λ _. omega arith) (λ _. listed)) (λ _. omega arith))

  -- of a sound store
  module _ (e : ok ≡ true) where
    pub found_sized : Sized s
    found_sized = sound_sized (sym g.tested ∙ e)

    entry_read : (l : List ℕ) (n : ℕ) (f : ℕ → ℕ) → l ≡ entries n (λ h. pick ok (f h) 0) → {i : ℕ} (h : ℕ) → i ≡ h → h < n → get_or l i 0 ≡ f h
    entry_read l n f q h ei k = ap₂ (λ x j. get_or x j 0) q ei ∙ get_or_entries n (λ h. pick ok (f h) 0) h 0 k ∙ pick_true e (f h) 0

    pub first_check_read : {i : ℕ} (h : ℕ) → i ≡ h → h < 4 → get_or first_checks i 0 ≡ first_check (view s) h
    first_check_read = entry_read first_checks 4 (first_check (view s)) g.kept

    pub outs_read : {i : ℕ} (h : ℕ) → i ≡ h → h < 4 → get_or outs i 0 ≡ outs_in (view s) h
    outs_read = entry_read outs 4 (outs_in (view s)) g.out

    pub fill_read : {i : ℕ} (u : ℕ) → i ≡ u → u < 16 → keys_lost_in (view s) u ≡ false → get_or fills i 0 ≡ listed_fill (view s) u
    fill_read u ei l kept = entry_read fills 16 (known_fill (view s)) g.filled u ei l ∙ unfold known_fill in pick-false kept _ _

    pub group_counts : (h : ℕ) → h < 4 → CountsKnown s h fills
    group_counts h l = record { counted = λ p k. fill_read (4 * h + p) refl (omega arith) }

    -- of a unit of whose group none is out
    pub own_fill_read : {i : ℕ} (u : ℕ) → i ≡ u → u < 16 → ltb 0 (outs_in (view s) (u / 4)) ≡ false → get_or fills i 0 ≡ fill_in (view s) u
    own_fill_read u ei l none =
        let serves = none_out s u none in
        fill_read u ei l (kept_keys (view s) u (unfold view in ne_eqb (byte s (8 + u)) 2 serves)) ∙ sym (own_fill s u serves)
