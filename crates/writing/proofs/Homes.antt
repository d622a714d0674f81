-- Where a key belongs, from what the code looks up.
use Prim.Native.Nat.{ℕ, ◌/◌, ◌<◌}
use mathlib.Core.Path.{◌≡◌, refl, sym, ap, ◌∙◌}
use mathlib.Core.Bool.{Bool, true, false, not}
use mathlib.Core.List.{List}
use lib.Dec.{eqb, ltb}
use lib.ListN.{get_or}
use Rattle.buffer.specs.Choice.{pick}
use Rattle.buffer.specs.ChoiceLaws.{pick-false}
use Rattle.buffer.specs.Range.{first}
use Rattle.model.specs.Layout.{view, key_of}
use Rattle.model.specs.Reads.{home_in, outs_in}
use Rattle.model.specs.Numbers.{first_of}
use Rattle.model.specs.Sound.{sound}
use Rattle.soundness.specs.Survey.{Surveyed}
use Rattle.soundness.specs.SurveyLaws.{fill_most, own_fill_read}
use Rattle.lookup.specs.SizedLaws.{sound_sized}
use Rattle.lookup.specs.KeyLaws.{rank_in_lem}
use Rattle.writing.specs.Homes.{opening_rows, Located}

-- ---- key k of a call whose field fits belongs to unit u of a sound store
pub record Belongs (s : List ℕ) (k : ℕ) (fits : Bool) (u : ℕ) : Type 0 where
  pub key : eqb k 0 ≡ false
  pub fitting : fits ≡ true
  pub tested : sound s ≡ true
  pub home : u ≡ home_in (view s) k
  pub low : u < 16

module _ {s : List ℕ} {k : ℕ} {fits : Bool} {u : ℕ} (h : Belongs s k fits u) where
  -- the last row decides
  pub opening : first_of (opening_rows s k fits) ≡ pick (ltb 0 (outs_in (view s) (u / 4))) 4 0
  unfolding first_of opening_rows
  opening =
      pick-false h.key _ _ ∙ pick-false (ap not h.fitting) _ _ ∙ pick-false (ap not h.tested) _ _
      ∙ ap (λ v. pick (ltb 0 (outs_in (view s) (v / 4))) 4 0) (sym h.home)

  -- no unit of its group is out; the code reads n at the index i, and r
  pub located : {fills first_checks outs : List ℕ} {i r : ℕ} → Surveyed s true fills first_checks outs
      → ltb 0 (outs_in (view s) (u / 4)) ≡ false → i ≡ u → r ≡ first (get_or fills i 0) (λ q. eqb (key_of ((view s).slot u q)) k)
      → Located s k (record { unit = u; fill = get_or fills i 0; rank = r })
  located {fills} {i = i} {r = r} g none ei er =
      let own = own_fill_read g refl u ei h.low none in
      record {
        sized = sound_sized h.tested;
        unit = sym h.home;
        fill = sym own;
        rank = sym (rank_in_lem s u (get_or fills i 0) r k own er);
        below = h.low;
        most = rw ei (fill_most g u h.low);
      }
