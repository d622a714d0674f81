-- Laws of a field's parts: a body and a stamp, of any value, come out of the field as they went in (`body_back`, `stamp_back`), the stamp's bytes are
-- those behind the body (`stamp_bytes_lem`), and every field is its body and its stamp (`field_parts`).
use Rattle.std.specs.Prelude.{ℕ, ◌<◌, ◌≡◌, length, drop}
use Rattle.std.proofs.Math.Path.{ap}
use Rattle.std.proofs.Common.{◌∙◌, arith}
use mathlib.Core.List.{List, ◌++◌}
use Rattle.std.proofs.Math.Nat.{zero-add}
use Rattle.std.proofs.Math.ListN.{take, length-drop, take-append-drop}
use Rattle.std.proofs.Math.Seq.{take_at, take_all}
use Rattle.buffer.specs.Bytes.{bytes32, part}
use Rattle.buffer.specs.ByteLaws.{byte_right, be32_ext, be32_bytes32, bytes32_be32}
use Rattle.group.specs.Widths.{body_bytes, stamp_bytes, field_bytes}
use Rattle.group.specs.Body.{IsBody}
use Rattle.model.specs.Field.{stamped, body_of, stamp_of}

module _ (body : List ℕ) (stamp : ℕ) (long : length body ≡ body_bytes) where
  pub body_back : body_of (stamped body stamp) ≡ body
  unfolding body_of stamped
  body_back = take_at body (bytes32 stamp) body_bytes long

  pub stamp_back : stamp < 4294967296 → stamp_of (stamped body stamp) ≡ stamp
  unfolding stamp_of stamped
  stamp_back small =
      be32_ext (body ++ bytes32 stamp) body_bytes (bytes32 stamp) 0 (λ i _. rw zero-add (byte_right body_bytes body (bytes32 stamp) i long))
      ∙ be32_bytes32 stamp small

-- of bytes of a field's width
module _ (x : List ℕ) (h : IsBody field_bytes x) where
  pub stamp_bytes_lem : bytes32 (stamp_of x) ≡ drop body_bytes x
  unfolding stamp_of part
  stamp_bytes_lem =
      bytes32_be32 x body_bytes (omega (arith, h.size)) h.bytes ∙ take_all stamp_bytes (drop body_bytes x) (simp length-drop (omega (arith, h.size)))

  pub field_parts : stamped (body_of x) (stamp_of x) ≡ x
  unfolding stamped body_of
  field_parts = ap (λ (y : List ℕ). take body_bytes x ++ y) stamp_bytes_lem ∙ take-append-drop body_bytes x
