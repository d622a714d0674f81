-- The counts of keys: their bounds, what the test of a list beside another tells, and what counting the keys of the units hands on.
use mathlib.Core.Path.{◌≡◌, refl, sym, ap, ap₂, ◌∙◌}
use Rattle.std.specs.Prelude.{None}
use Rattle.std.specs.Bool.{then_some}
use mathlib.Core.Bool.{Bool, true, false, ◌&&◌}
use mathlib.Core.List.{List, ◌∷◌}
use Prim.Native.Nat.{ℕ, zero, suc, ◌+◌, ◌/◌, ◌≤◌, ◌<◌}
use native.Mathlib.Nat.{le_of_suc-le-suc, not-suc-le-zero}
use native.Mathlib.Omega.{arith}
use lib.Dec.{eqb, ltb, leb}
use lib.ListN.{length, set, length-set}
use borrow.Author.Tests.{le-leb, le-ltb}
use Rattle.buffer.specs.Choice.{pick}
use Rattle.buffer.specs.ChoiceLaws.{by-pick, pick-false}
use Rattle.buffer.specs.Bytes.{byte}
use Rattle.buffer.specs.Range.{all}
use Rattle.buffer.specs.Loops.{entries}
use Rattle.buffer.specs.RangeLaws.{first_le, all_both, length_entries, entries_ext}
use Rattle.buffer.specs.LoopTests.{Passing, passing_start, passing_turn, passing_fail}
use Rattle.buffer.specs.LoopWrites.{filled, Filling, filling_start, filling_turn}
use Rattle.soundness.specs.Keys.{fill_of, new_and_same, matched}
use Rattle.soundness.specs.Pieces.{Ranged, data_keys, column_keys, unkept, data_fill, lost_fill, served_or_lost, unit_fill, own_listed, unit_good}
use Rattle.soundness.specs.Survey.{counted_fills}
use Rattle.soundness.proofs.Told.{fails}

-- no unit has room for 65: a count that is 65 where a test fails tells the test
told : (t : Bool) (n : ℕ) → n ≤ 64 → leb (pick t n 65) 64 ≡ t
unfolding pick
told true n l = le-leb n 64 l
told false n l = refl

-- ---- no unit has more keys than ranks
pub fill_most : (b : ℕ) (key : ℕ → ℕ) → fill_of b key ≤ b
unfolding fill_of
fill_most b key = first_le b (λ r. eqb (key r) 0)

pub data_fill_most : (s : List ℕ) (u : ℕ) → data_fill s u ≤ byte s 5
unfolding data_fill
data_fill_most s u = fill_most (byte s 5) (data_keys s u)

pub lost_fill_most : (s : List ℕ) (u : ℕ) → lost_fill s u ≤ byte s 5
unfolding lost_fill
lost_fill_most s u =
    by-pick
    (λ n. n ≤ byte s 5)
    (unkept s (u / 4))
    0
    (fill_of (byte s 5) (column_keys s u))
    (λ _. omega arith)
    (λ _. fill_most (byte s 5) (column_keys s u))

pub unit_fill_most : (s : List ℕ) (u : ℕ) → unit_fill s u ≤ byte s 5
unfolding unit_fill
unit_fill_most s u =
    by-pick (λ n. n ≤ byte s 5) (ltb u (byte s 6)) (pick (eqb (byte s (8 + u)) 1) (data_fill s u) (lost_fill s u)) 0
    (λ _.
    by-pick (λ n. n ≤ byte s 5) (eqb (byte s (8 + u)) 1) (data_fill s u) (lost_fill s u) (λ _. data_fill_most s u) (λ _. lost_fill_most s u))
    (λ _. omega arith)

-- ---- the test of a list beside another
pub matched_told : (b : ℕ) (key other : ℕ → ℕ) → b ≤ 64 → leb (matched b key other) 64 ≡ all (fill_of b key) (new_and_same key other)
unfolding matched
matched_told b key other few = told (all (fill_of b key) (new_and_same key other)) (fill_of b key) (omega (arith, fill_most b key))

-- ---- what counting hands on
pub uncounted : (s : List ℕ) → all (byte s 6) (unit_good s) ≡ false → None ≡ counted_fills s
unfolding counted_fills
uncounted s e = fails (entries 16 (unit_fill s)) e

pub counted : (s : List ℕ) {fills : List ℕ} (t : Bool) → t ≡ all (byte s 6) (unit_good s) → fills ≡ entries 16 (unit_fill s) → then_some t fills ≡ counted_fills s
unfolding counted_fills
counted s t h f = ap₂ then_some h f

-- both tests of each unit
pub both_good : (s : List ℕ) → (all (byte s 6) (served_or_lost s) && all (byte s 6) (own_listed s)) ≡ all (byte s 6) (unit_good s)
unfolding unit_good
both_good s = sym (all_both (byte s 6) (served_or_lost s) (own_listed s))

-- ---- a loop over the units in place that writes the count of each and stops at one that fails a test
-- the entries behind those that are written are zero
filled_zeros : (f : ℕ → ℕ) (n m : ℕ) → n ≤ m → ((i : ℕ) → n ≤ i → f i ≡ 0) → filled f n (entries m (λ _. 0)) ≡ entries m f
unfolding filled entries
filled_zeros f zero m l z = entries_ext m (λ _. 0) f (λ i _. sym (z i (omega arith)))
filled_zeros f (suc n) zero l z = absurd (not-suc-le-zero l)
filled_zeros f (suc n) (suc m) l z =
    ap (λ t. f 0 ∷ t) (filled_zeros (λ (k : ℕ). f (suc k)) n m (le_of_suc-le-suc l) (λ i k. z (suc i) (omega arith)))

pub record Tallying (s : List ℕ) (p : ℕ → Bool) (fills : List ℕ) (u : ℕ) : Type 0 where
  pub passing : Passing p (byte s 6) u
  pub filling : Filling (unit_fill s) (entries 16 (λ _. 0)) fills u
  pub long : length fills ≡ 16

pub tallying_start : {s fills : List ℕ} {p : ℕ → Bool} → fills ≡ entries 16 (λ _. 0) → Tallying s p fills 0
tallying_start e = record { passing = passing_start; filling = rw e filling_start; long = ap length e ∙ length_entries 16 (λ _. 0) }

module _ {s fills : List ℕ} {p : ℕ → Bool} {u : ℕ} (r : Ranged s) (t : Tallying s p fills u) where
  pub tallying_turn : {i n : ℕ} → u < byte s 6 → i ≡ u → p u ≡ true → n ≡ unit_fill s u → Tallying s p (set fills i n) (u + 1)
  tallying_turn {i} {n} l e good count =
      record {
        passing = passing_turn t.passing l good;
        filling = rw e (filling_turn n t.filling (omega (arith, t.long, r.most)) count);
        long = length-set fills i n ∙ t.long;
      }

  pub tallying_fail : u < byte s 6 → p u ≡ false → all (byte s 6) p ≡ false
  tallying_fail l bad = sym (passing_fail t.passing l bad)

  pub tallying_end : byte s 6 ≤ u → fills ≡ entries 16 (unit_fill s)
  unfolding unit_fill
  tallying_end l =
      let same : u ≡ byte s 6 = omega (arith, t.passing.within) in
      t.filling.bytes
      ∙ filled_zeros (unit_fill s) u 16 (omega (arith, r.most)) (λ i k.
      pick-false (le-ltb i (byte s 6) (omega arith)) (pick (eqb (byte s (8 + i)) 1) (data_fill s i) (lost_fill s i)) 0)
