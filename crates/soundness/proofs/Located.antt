-- Where the units of a store lie, and that their keys lie within its bytes.
use mathlib.Core.Path.{◌≡◌, sym, ap, ap₂, ◌∙◌}
use mathlib.Core.Bool.{true, false}
use mathlib.Core.List.{List}
use Prim.Native.Nat.{ℕ, ◌+◌, ◌*◌, ◌/◌, ◌%◌, ◌≤◌, ◌<◌}
use native.Mathlib.Nat.{mul-le-mul_right, suc-mul}
use native.Mathlib.Omega.{arith}
use lib.ListN.{length}
use Rattle.buffer.specs.ChoiceLaws.{pick_true, pick-false}
use Rattle.buffer.specs.Bytes.{byte}
use Rattle.model.specs.Layout.{view, slot_at, check_at}
use Rattle.model.specs.Reads.{first_check}
use Rattle.lookup.specs.Keys.{keys_at}
use Rattle.buffer.specs.Strided.{strided32, Within}
use Rattle.group.specs.Widths.{slot_bytes, check_bytes}
use Rattle.soundness.specs.Pieces.{data_keys, column_keys, unkept, beside_keys}

-- row u of n rows of b ends within them
pub row_within : (n u b : ℕ) → u < n → u * b + b ≤ n * b
row_within n u b h = rw suc-mul at (mul-le-mul_right b h)

-- the keys of b slots, and of one of the four places in b check records, that lie within the bytes
pub within_slots : {s : List ℕ} {at b : ℕ} → at + slot_bytes * b ≤ length s → Within s at slot_bytes b
within_slots l = record { fits = λ r k. omega arith }

pub within_column : {s : List ℕ} {at b : ℕ} → at + check_bytes * b ≤ length s + 12 → Within s at check_bytes b
within_column l = record { fits = λ r k. omega arith }

-- the places that the code computes, as those of the definitions
pub column_place : (s : List ℕ) (u : ℕ) {k at p : ℕ} → k ≡ first_check (view s) (u / 4) → at ≡ check_at (byte s 5) k 0 → p ≡ u % 4 → at + 4 * p ≡ keys_at s u
column_place s u {k} {at} {p} e f g = ap₂ (λ x y. x + 4 * y) (f ∙ ap (λ c. check_at (byte s 5) c 0) e) g

pub column_list : (s : List ℕ) (u : ℕ) {at : ℕ} → at ≡ keys_at s u → strided32 s at check_bytes ≡ column_keys s u
unfolding column_keys
column_list s u e = ap (λ x. strided32 s x check_bytes) e

pub data_list : (s : List ℕ) (u : ℕ) {at : ℕ} → at ≡ slot_at (byte s 5) u 0 → strided32 s at slot_bytes ≡ data_keys s u
unfolding data_keys
data_list s u e = ap (λ x. strided32 s x slot_bytes) e

-- ---- the list beside the slots of a unit
pub beside_own : (s : List ℕ) (u : ℕ) {key : ℕ → ℕ} → unkept s (u / 4) ≡ true → key ≡ data_keys s u → key ≡ beside_keys s u
unfolding beside_keys
beside_own s u k e = e ∙ sym (pick_true k (data_keys s u) (column_keys s u))

pub beside_listed : (s : List ℕ) (u : ℕ) {key : ℕ → ℕ} → unkept s (u / 4) ≡ false → key ≡ column_keys s u → key ≡ beside_keys s u
unfolding beside_keys
beside_listed s u k e = e ∙ sym (pick-false k (data_keys s u) (column_keys s u))
