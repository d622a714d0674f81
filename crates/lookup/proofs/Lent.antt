-- A slot as code lends it in two parts, for its key and for its field.
use Prim.Native.Nat.{ℕ}
use mathlib.Core.Path.{◌≡◌, ◌∙◌}
use mathlib.Core.List.{List, ◌++◌}
use native.Mathlib.Omega.{arith}
use lib.ListN.{length, take, drop, length-take, length-drop, length-append}
use Rattle.buffer.specs.Bytes.{splice}
use Rattle.buffer.specs.SpliceLaws.{splice_next, splice_whole}
use Rattle.group.specs.Widths.{key_bytes, field_bytes, slot_bytes}

-- a slot written in two parts: a key, and behind it a field
module _ (o k : List ℕ) (slot : length o ≡ slot_bytes) (key : length k ≡ key_bytes) where
  pub field_room : length (take field_bytes (drop key_bytes (k ++ drop key_bytes o))) ≡ field_bytes
  field_room = simp (length-take, length-drop, length-append) (omega arith)

  pub two_parts : (b : List ℕ) → take key_bytes (k ++ drop key_bytes o) ++ (b ++ drop field_bytes (drop key_bytes (k ++ drop key_bytes o))) ≡ k ++ b
  unfolding splice
  two_parts b = splice_next 0 key_bytes field_bytes k b o (omega arith) key ∙ splice_whole slot_bytes (k ++ b) o (omega arith)
