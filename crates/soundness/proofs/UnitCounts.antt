-- The count of the keys of a unit, from what the callees found. What is asked of its keys besides is `own`.
use mathlib.Core.Path.{◌≡◌, refl, sym, ap, ap₂, ◌∙◌}
use mathlib.Core.Bool.{Bool, true, false, ◌&&◌, and-true}
use mathlib.Core.List.{List}
use Prim.Native.Nat.{ℕ, ◌+◌, ◌*◌, ◌/◌, ◌≤◌, ◌<◌}
use native.Mathlib.Omega.{arith}
use lib.Dec.{leb, eqb}
use borrow.Author.Tests.{lt-ltb}
use Rattle.std.specs.Prelude.{Option, Some, None}
use Rattle.std.specs.Bool.{then_some}
use Rattle.buffer.specs.Choice.{pick}
use Rattle.buffer.specs.Bytes.{byte}
use Rattle.group.specs.Widths.{slot_bytes}
use Rattle.model.specs.Layout.{slot_at}
use Rattle.soundness.specs.Keys.{fill_of, matched, any_keys, own_keys, found}
use Rattle.soundness.specs.Pieces.{zero_between, data_keys, column_keys, unkept, beside_keys, data_fill, lost_fill, unit_zero, rest_zero, served, lost}
use Rattle.soundness.specs.Pieces.{served_or_lost, served_count, lost_count, unit_count, unit_fill, none_behind, own_listed, unit_good}
use Rattle.soundness.proofs.Counting.{matched_told}

and_swap : (a b c : Bool) → (a && b && c) ≡ (a && c && b)
and_swap true true true = refl
and_swap true true false = refl
and_swap true false true = refl
and_swap true false false = refl
and_swap false b c = refl

and_group : (a b c : Bool) → (a && b && c) ≡ (a && (b && c))
and_group true b c = refl
and_group false b c = refl

-- a unit with few slots has its keys tested with the others
pub few_law : (s : List ℕ) (u : ℕ)
    → (served_or_lost s u && own_keys (byte s 6) u (unit_fill s u) (beside_keys s u) && none_behind s u (unit_fill s u)) ≡ unit_good s u
unfolding unit_good own_listed
few_law s u = and_group (served_or_lost s u) (own_keys (byte s 6) u (unit_fill s u) (beside_keys s u)) (none_behind s u (unit_fill s u))

-- and with more than a few by groups
pub marks_law : (s : List ℕ) (u : ℕ)
    → (served_or_lost s u && any_keys (byte s 6) u (unit_fill s u) (beside_keys s u) && true) ≡ served_or_lost s u
unfolding any_keys
marks_law s u = and-true _ ∙ and-true (served_or_lost s u)

module _ (own : ℕ → ℕ → ℕ → (ℕ → ℕ) → Bool) (s : List ℕ) (u : ℕ) where
  -- a list and the one beside it pass the test of a store with no more than 64 slots
  abbrev pub Passes : (ℕ → ℕ) → (ℕ → ℕ) → Bool
  Passes key other = leb (matched (byte s 5) key other) 64 && own (byte s 6) u (fill_of (byte s 5) key) other

  pub reached : byte s 5 ≤ 64 → {m w : ℕ} {key other key' other' : ℕ → ℕ} {r : Option ℕ} → m ≡ byte s 6 → w ≡ byte s 5 → key ≡ key' → other ≡ other'
      → r ≡ found (own m u) w key other
      → r ≡ then_some (Passes key' other') (fill_of (byte s 5) key')
  unfolding found
  reached few {key = key} {other} {key'} {other'} units width keys beside count =
      count
      ∙ ap₂ (λ m w. found (own m u) w key other) units width
      ∙ ap₂ (found (own (byte s 6) u) (byte s 5)) keys beside
      ∙ ap (λ t. then_some (t && own (byte s 6) u (fill_of (byte s 5) key') other') (fill_of (byte s 5) key')) (sym (matched_told (byte s 5) key' other' few))

  pub served_reached : byte s 5 ≤ 64 → {m w : ℕ} {key other : ℕ → ℕ} {r : Option ℕ} → m ≡ byte s 6 → w ≡ byte s 5 → key ≡ data_keys s u → other ≡ beside_keys s u
      → r ≡ found (own m u) w key other
      → r ≡ then_some (Passes (data_keys s u) (beside_keys s u)) (data_fill s u)
  unfolding data_fill
  served_reached few units width keys beside count = reached few units width keys beside count

  -- in service: the slots behind its keys are tested too
  pub served_law : (Passes (data_keys s u) (beside_keys s u) && rest_zero s u) ≡ (served s u && own (byte s 6) u (data_fill s u) (beside_keys s u))
  unfolding served data_fill
  served_law =
      and_swap (leb (matched (byte s 5) (data_keys s u) (beside_keys s u)) 64) (own (byte s 6) u (fill_of (byte s 5) (data_keys s u)) (beside_keys s u))
      (rest_zero s u)

  -- what the test of its slots tells
  pub rest_zero_lem : {n : ℕ} → n ≡ data_fill s u
      → zero_between s (slot_at (byte s 5) u 0 + slot_bytes * n) (slot_at (byte s 5) u 0 + slot_bytes * byte s 5) ≡ rest_zero s u
  unfolding rest_zero
  rest_zero_lem e = ap (λ n. zero_between s (slot_at (byte s 5) u 0 + slot_bytes * n) (slot_at (byte s 5) u 0 + slot_bytes * byte s 5)) e

  pub unit_zero_lem : zero_between s (slot_at (byte s 5) u 0 + slot_bytes * 0) (slot_at (byte s 5) u 0 + slot_bytes * byte s 5) ≡ unit_zero s u
  unfolding unit_zero
  unit_zero_lem = ap (λ x. zero_between s x (slot_at (byte s 5) u 0 + slot_bytes * byte s 5)) (omega arith)

  -- out
  pub lost_zeros : unit_zero s u ≡ false → None ≡ lost_count own s u
  unfolding lost
  lost_zeros e = rw e refl

  pub lost_none : own (byte s 6) u 0 (beside_keys s u) ≡ true → unit_zero s u ≡ true → unkept s (u / 4) ≡ true → Some 0 ≡ lost_count own s u
  unfolding lost lost_fill pick
  lost_none law zero none = rw (zero, none, law) refl

  pub lost_keys : {r : Option ℕ} → unit_zero s u ≡ true → unkept s (u / 4) ≡ false
      → r ≡ then_some (Passes (column_keys s u) (column_keys s u)) (fill_of (byte s 5) (column_keys s u))
      → r ≡ lost_count own s u
  unfolding lost lost_fill beside_keys pick
  lost_keys zero kept count = rw (zero, kept) count

  -- in place
  module _ (place : u < byte s 6) where
    pub served_unit : {r : Option ℕ} → eqb (byte s (8 + u)) 1 ≡ true → r ≡ served_count own s u → r ≡ unit_count own s u
    unfolding served_or_lost unit_fill pick
    served_unit e count = rw (lt-ltb u (byte s 6) place, e) count

    pub lost_unit : {r : Option ℕ} → eqb (byte s (8 + u)) 1 ≡ false → r ≡ lost_count own s u → r ≡ unit_count own s u
    unfolding served_or_lost unit_fill pick
    lost_unit e count = rw (lt-ltb u (byte s 6) place, e) count
