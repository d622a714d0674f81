-- The keys that the test reads from the bytes are those of the definitions: a slot's own, and the one that a check unit lists.
use mathlib.Core.Path.{◌≡◌, sym, ap, ◌∙◌, fun_ext}
use mathlib.Core.List.{List}
use Prim.Native.Nat.{ℕ, ◌+◌, ◌*◌, ◌/◌, ◌%◌, ◌<◌}
use native.Mathlib.Omega.{arith}
use borrow.Author.Tests.{eq-eqb, ne_eqb}
use Rattle.buffer.specs.ChoiceLaws.{pick_true, pick-false}
use Rattle.buffer.specs.Bytes.{byte, be32, part}
use Rattle.buffer.specs.ByteLaws.{be32_part}
use Rattle.model.specs.Layout.{view, key_of, check_at}
use Rattle.model.specs.LayoutLaws.{key_first}
use Rattle.model.specs.Reads.{first_check, listed_key}
use Rattle.lookup.specs.KeyLaws.{unit_key}
use Rattle.buffer.specs.Strided.{strided32}
use Rattle.group.specs.Widths.{check_bytes}
use Rattle.soundness.specs.Pieces.{data_keys, column_keys}

module _ (s : List ℕ) where
  -- a slot's key
  pub slot_key : (u r : ℕ) → key_of ((view s).slot u r) ≡ data_keys s u r
  unfolding data_keys
  slot_key u r = sym (unit_key s u r)

  -- the key at a place of a check record
  pub check_key_lem : (c p r : ℕ) → p < 4 → key_of (part (4 * p) 4 ((view s).check c r)) ≡ strided32 s (check_at (byte s 5) c 0 + 4 * p) check_bytes r
  unfolding key_of view strided32
  check_key_lem c p r h =
      let at : check_at (byte s 5) c r + (4 * p + 0) ≡ check_at (byte s 5) c 0 + 4 * p + check_bytes * r = omega arith in
      be32_part (4 * p) 4 (part (check_at (byte s 5) c r) check_bytes s) 0 (omega arith)
      ∙ be32_part (check_at (byte s 5) c r) check_bytes s (4 * p + 0) (omega arith)
      ∙ ap (be32 s) at

  -- the keys listed for a unit: its own, or, where it is out, those of the first check unit in service
  pub listed_own : (u : ℕ) → (byte s (8 + u) ≡ 2 → ⊥) → (λ r. key_of (listed_key (view s) u r)) ≡ data_keys s u
  unfolding listed_key view
  listed_own u h = fun_ext (λ r. ap key_of (pick-false (ne_eqb (byte s (8 + u)) 2 h) _ _) ∙ key_first ((view s).slot u r) ∙ slot_key u r)

  pub listed_out : (u : ℕ) → byte s (8 + u) ≡ 2 → (λ r. key_of (listed_key (view s) u r)) ≡ column_keys s u
  unfolding listed_key view column_keys
  listed_out u h = fun_ext (λ r. ap key_of (pick_true (eq-eqb (byte s (8 + u)) 2 h) _ _) ∙ check_key_lem (first_check (view s) (u / 4)) (u % 4) r (omega arith))
